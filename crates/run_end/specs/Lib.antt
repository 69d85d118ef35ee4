pub mod Ends
pub mod Words
pub mod WorkedEnds
pub use Rattle.flux_core.specs.CoreView
pub use Rattle.flux_core.specs.Stands
pub use Rattle.pair_machine.specs.Machine
