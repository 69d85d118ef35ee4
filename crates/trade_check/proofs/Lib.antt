pub mod Facts
pub mod WorkedRows
