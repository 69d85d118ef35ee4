pub mod Again
pub mod Continuing
pub mod Places
pub mod Pushing
pub mod Readings
pub mod Repeated
pub mod Written
