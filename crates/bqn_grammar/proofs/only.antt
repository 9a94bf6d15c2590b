-- Only what spells a piece is read as it, and what is read is well.
pub mod Depths
pub mod Elements
pub mod Expressions
pub mod Patterns
pub mod Pieces
pub mod Steps
pub mod Terms
pub mod Units
pub mod WellTrees
