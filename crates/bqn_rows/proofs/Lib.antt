pub mod Identity
pub mod Matching
pub mod Order
pub mod Ties
pub mod Levels
pub mod Proper
pub mod Prototypes
pub mod Making
pub mod Rows
pub mod Following
pub mod Questioning
pub mod Stamping
mod samples
