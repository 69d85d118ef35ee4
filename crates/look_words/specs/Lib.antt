pub mod Forms
pub mod Options
pub mod Parts
pub mod Reading
