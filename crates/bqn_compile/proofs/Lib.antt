pub mod verified
pub mod Accepted
pub mod Counts
pub mod Gathered
pub mod Keys
pub mod Walks
pub mod Walked
pub mod Onward
pub mod Turning
pub mod Bodies
pub mod Headers
pub mod Loops
pub mod Reading
pub mod Unstarted
pub mod Sources
pub mod Placings
pub mod StepLeads
mod Samples
mod BodySamples
mod AcceptedSamples
