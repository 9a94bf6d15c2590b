-- Worked rows, computed: nothing cites them.
mod Terms
mod Values
mod Arithmetic
mod Structure
mod Moving
mod Selection
mod Ordering
mod Searching
mod Calls
