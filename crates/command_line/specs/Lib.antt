pub mod Forms
pub mod Syntax
pub mod Views
pub mod Words
