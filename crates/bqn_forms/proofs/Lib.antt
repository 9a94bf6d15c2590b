pub mod Spelling
pub mod Called
pub mod Emitting
pub mod Simulation
pub mod Compiled
pub mod NumberLine
pub mod Steps
pub mod Going
mod FormSamples
