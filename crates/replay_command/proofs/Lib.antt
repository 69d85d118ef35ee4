pub mod Answering
pub mod EventFaults
pub mod Following
pub mod Ways
