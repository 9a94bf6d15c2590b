pub mod Bodies
pub mod Forms
pub mod Grouped
pub mod Patterns
pub mod Walking
