pub mod Limits
pub mod Lines
pub mod Messages
pub mod Numbers
pub mod Reading
pub mod Text
