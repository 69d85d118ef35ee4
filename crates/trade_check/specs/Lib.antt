pub mod Counts
pub mod Given
pub mod Symbols
pub mod Text
pub mod Times
pub mod Warnings
pub mod WorkedRows
