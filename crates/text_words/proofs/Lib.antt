pub mod CountingLines
pub mod LineFacts
pub mod NumberWords
pub mod Pushing
pub mod Spelling
