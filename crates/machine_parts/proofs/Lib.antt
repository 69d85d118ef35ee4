pub mod CatchingTurns
pub mod PartsKept
pub mod SafePairsKept
pub mod SafeThroughout
pub mod Turned
