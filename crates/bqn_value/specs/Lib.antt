pub mod Seen
pub mod Meaning
pub mod Falls
