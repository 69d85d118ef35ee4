pub mod Cash
pub mod Following
pub mod Judged
pub mod Told
pub mod Tries
pub mod Wants
pub mod Watched
pub mod Ways
