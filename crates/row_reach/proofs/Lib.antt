pub mod Reached
pub mod WorkedRows
