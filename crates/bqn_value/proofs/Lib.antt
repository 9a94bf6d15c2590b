pub mod Within
pub mod Build
pub mod Fills
pub mod Protos
pub mod Functions
pub mod Depths
pub mod Rows
