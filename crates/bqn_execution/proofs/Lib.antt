pub mod SmallRuns
mod Samples
mod PatternSamples
mod RunSamples
pub mod Sound
pub mod Sure
pub mod SoundTables
mod LongTexts
pub mod Uniformity
pub mod FormedTables
pub mod FormedCodes
pub mod GoodValues
pub mod FineCalls
pub mod SoundStates
pub mod Keeping
pub mod RunsKeep
pub mod CallsKeep
pub mod LookingUp
pub mod KeptStates
pub mod GivenCalls
mod SoundnessSamples
