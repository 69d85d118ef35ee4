pub mod Alone
pub mod Ends
pub mod Filters
pub mod Windows
pub mod WorkedRows
