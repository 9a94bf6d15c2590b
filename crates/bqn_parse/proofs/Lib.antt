mod LastName
mod Strands
mod Readers
mod Groups
pub mod Briefs
pub mod Closing
pub mod Looking
pub mod Marking
pub mod Parsed
pub mod Stepping
pub mod Walking
pub mod Backward
pub mod Fused
pub mod Settled
pub mod Expressions
pub mod Leftward
pub mod Singles
pub mod Trains
