pub mod Pushing
pub mod Worked
