-- A run only adds to what is written, and goes on with more steps.
pub mod Actions
pub mod Stores
pub mod Expressions
pub mod Bodies
pub mod Budgets
