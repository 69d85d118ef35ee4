pub mod Built
pub mod Names
pub mod OneWord
pub mod Parsing
pub mod Readings
pub mod Rows
pub mod Walks
