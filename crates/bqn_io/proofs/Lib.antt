pub mod Moved
pub mod Shelves
pub mod Streams
pub mod Writing
mod Samples
