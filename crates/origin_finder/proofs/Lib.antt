pub mod Caused
pub mod Marking
pub mod Passed
pub mod Saying
pub mod Walking
