pub mod Generator
pub mod Limits
pub mod MadeText
pub mod ReadBack
pub mod Summary
