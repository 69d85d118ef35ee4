pub mod EventFaults
pub mod Following
pub mod Telling
pub mod Ways
