-- The half that runs: where code is known to fit its source, both do the same, from actions and variables up to whole programs.
pub mod Agree
pub mod Acts
pub mod Variables
pub mod Told
pub mod BlockCounts
pub mod Stacks
pub mod Shared
pub mod Expressions
pub mod Fields
pub mod Patterns
pub mod Bodies
pub mod Calls
pub mod Lines
pub mod Whole
