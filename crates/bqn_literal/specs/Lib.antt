pub mod Results
pub mod Shown
pub mod Spellings
pub mod Values
