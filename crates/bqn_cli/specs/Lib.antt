pub mod Command
pub mod Answer
pub mod Headline
pub mod Accepting
pub mod Tasks
pub mod Writing
