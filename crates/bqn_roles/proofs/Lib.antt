pub mod Endings
pub mod Scanning
