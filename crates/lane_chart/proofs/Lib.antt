pub mod Escaped
pub mod Worked
