pub mod Drained
pub mod Modes
pub mod Progress
pub use Rattle.flux_core.specs.CoreView
pub use Rattle.flux_core.specs.Promises
pub use Rattle.flux_core.specs.Stands
pub use Rattle.pair_machine.specs.Drain
pub use Rattle.pair_machine.specs.Machine
