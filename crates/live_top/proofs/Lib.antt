pub mod AsRun
pub mod Completeness
pub mod Endings
pub mod Inputs
pub mod Statuses
