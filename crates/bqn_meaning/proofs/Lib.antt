pub mod advancing
mod MeaningSamples
pub mod BlockNumbers
