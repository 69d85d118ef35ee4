pub mod Courses
pub mod Feeding
pub mod MergedInputs
pub mod Refusals
