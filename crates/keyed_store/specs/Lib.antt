pub mod Join
pub mod Limits
pub mod Store
