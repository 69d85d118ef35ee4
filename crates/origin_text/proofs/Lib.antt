pub mod Among
pub mod Counting
