-- Which body and variable each name of a tree refers to.
pub mod Order
pub mod Mentions
pub mod Scope
pub mod Bodies
