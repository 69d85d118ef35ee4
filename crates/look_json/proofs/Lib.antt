pub mod Floats
pub mod Marks
