-- What the walk finds is spelled by its tokens and is well: what it keeps from token to token.
pub mod Bodies
pub mod Brackets
pub mod Clean
pub mod Ends
pub mod Forms
pub mod Groups
pub mod Headers
pub mod Items
pub mod MorePieces
pub mod OpenBrackets
pub mod Room
pub mod Signs
pub mod Sorts
pub mod Steps
pub mod Walk
