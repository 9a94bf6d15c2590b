pub mod SmallCodes
mod VerifiedSamples
