pub mod Output
pub mod Placing
pub mod Stages
pub mod Sums
pub mod WorkedRows
