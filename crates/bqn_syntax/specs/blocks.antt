-- What a tree holds: how many blocks and their numbers, what bodies export, and where each piece begins.
pub mod Leads
pub mod Counting
pub mod Exporting
pub mod Blocks
