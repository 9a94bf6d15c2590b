-- What names refer to: the slots that instructions and patterns name are there.
pub mod Fronts
pub mod Seeing
pub mod Walking
pub mod NameWalks
pub mod PatternWalks
pub mod HeaderWalks
pub mod BlockWalks
pub mod TreeWalks
pub mod Slots
