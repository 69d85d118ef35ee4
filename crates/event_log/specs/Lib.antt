pub mod Blocks
pub mod Reading
pub mod Stored
pub mod Views
