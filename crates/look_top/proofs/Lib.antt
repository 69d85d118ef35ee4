pub mod Answering
pub mod Completeness
pub mod Endings
pub mod Statuses
