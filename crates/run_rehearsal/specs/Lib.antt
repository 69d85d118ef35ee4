pub mod Fates
pub mod Merged
pub mod RehearsalText
pub mod WorkedRehearsal
pub use Rattle.flux_core.specs.Stands
pub use Rattle.pair_machine.specs.Machine
