pub mod Compares
pub mod Keys
pub mod Limits
pub mod Spec
pub mod Times
