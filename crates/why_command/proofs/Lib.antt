pub mod Readings
pub mod Ways
