pub mod Counts
pub mod Front
pub mod Marks
pub mod Rows
