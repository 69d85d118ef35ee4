pub mod Courses
pub mod OneOperator
pub mod Refusals
pub mod Telling
pub mod Working
