pub mod Clauses
pub mod Lines
pub mod Runs
pub mod Stops
pub mod Words
pub use Rattle.flux_top.specs.Outcome
