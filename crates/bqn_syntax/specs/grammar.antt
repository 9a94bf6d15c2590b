-- Trees, the token lists that spell them, and the walk that finds the tree of a token list.
pub mod Brackets
pub mod Punctuation
pub mod Trees
pub mod TreeEquations
pub mod Sorts
pub mod Items
pub mod Units
pub mod Expressions
pub mod Headers
pub mod Classes
pub mod Looks
pub mod Parsing
pub mod Spells
pub mod Well
pub mod Grammar
