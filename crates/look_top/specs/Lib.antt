pub mod Asked
pub mod Clauses
pub mod Lines
pub mod Stops
pub use Rattle.flux_top.specs.Outcome
