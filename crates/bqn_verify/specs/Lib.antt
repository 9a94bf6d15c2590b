pub mod Judged
pub mod Marks
pub mod Rows
pub mod Verifies
