pub mod Marking
pub mod Marks
pub mod Passed
pub mod Tracing
pub mod Walking
