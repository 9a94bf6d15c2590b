-- The walk over the tokens that spell a tree comes to this tree.
pub mod Arrows
pub mod Bodies
pub mod Brackets
pub mod Headers
pub mod Lists
pub mod Looks
pub mod Patterns
pub mod Steps
pub mod Tree
