pub mod Completeness
pub mod Courses
pub mod Endings
pub mod LastSteps
pub mod Owning
pub mod Requests
pub mod Statuses
pub mod Stopping
