pub mod Places
pub mod SentPackets
pub mod FirstLinks
pub mod Events
pub mod Drawn
pub mod Merged
pub mod Runs
pub mod Takes
