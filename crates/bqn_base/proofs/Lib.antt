pub mod Fits
pub mod Lists
pub mod Scalars
pub mod Quotients
pub mod Remainders
pub mod Powers
pub mod Roots
pub mod Degrees
pub mod Disjunctions
mod Samples
