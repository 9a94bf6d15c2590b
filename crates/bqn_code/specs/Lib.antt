pub mod Places
pub mod Plain
pub mod PatternEquations
pub mod Numbering
pub mod Heights
pub mod Standing
pub mod Conditions
pub mod Verified
