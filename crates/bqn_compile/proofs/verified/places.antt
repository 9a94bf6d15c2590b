-- The places of the instructions of translated code.
pub mod PlacedCodes
pub mod Placing
pub mod PlacesKept
