pub mod RunEnds
pub mod ScriptFaults
pub mod Ways
