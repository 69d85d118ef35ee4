pub mod Forms
pub mod Loading
pub mod Query
pub mod Routed
pub mod WorkedTexts
