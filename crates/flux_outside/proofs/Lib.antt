pub mod FileNames
pub mod ReadLaws
pub mod Sinks
