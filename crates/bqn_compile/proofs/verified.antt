-- The code of a tree that comes from a source is verified.
pub mod Tests
pub mod blocks
pub mod bodies
pub mod stacks
pub mod slots
pub mod exports
pub mod pools
pub mod places
pub mod TheCode
pub mod TranslatedCode
