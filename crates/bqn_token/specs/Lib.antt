pub mod Tokenizing
pub mod Singles
pub mod Alones
pub mod Runs
