pub mod Longest
pub mod Cutting
pub mod WordNames
pub mod Lengths
pub mod FittingTokens
mod Samples
mod TokenSamples
mod GrammarSamples
mod BracketSamples
mod ScopeSamples
pub mod BlockNumbers
