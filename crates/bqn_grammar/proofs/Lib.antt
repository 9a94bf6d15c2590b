pub mod Fitting
pub mod Options
pub mod TreeItems
pub mod found
pub mod only
pub mod sound
pub mod walked
