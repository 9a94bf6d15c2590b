-- Each well tree is found from every token list that spells it: its pieces are read as they are written.
pub mod Expressions
pub mod HeaderItems
pub mod Headers
pub mod Patterns
pub mod Pieces
pub mod Steps
pub mod Terms
pub mod Units
pub mod WellTrees
