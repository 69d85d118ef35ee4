pub mod Laws
pub mod Marks
pub mod Origins
pub mod Stages
pub mod WorkedRows
