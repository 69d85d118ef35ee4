pub mod FromEntries
pub mod MovesKept
pub mod OfBoth
