pub mod Ranks
pub mod Worked
