pub mod Growing
pub mod Pushing
