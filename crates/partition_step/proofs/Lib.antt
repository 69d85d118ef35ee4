pub mod Emitting
pub mod Merging
pub mod Places
pub mod TimelyNext
