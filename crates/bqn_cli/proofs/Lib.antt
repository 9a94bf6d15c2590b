pub mod UsageBytes
pub mod CommandWords
pub mod Ended
pub mod Accepted
pub mod Commands
