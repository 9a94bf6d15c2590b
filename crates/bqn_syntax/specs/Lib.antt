pub mod text
pub mod grammar
pub mod scope
pub mod blocks
