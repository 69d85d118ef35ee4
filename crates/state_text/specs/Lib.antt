pub mod Counted
pub mod Shown
pub mod StateText
pub mod WorkedTexts
pub use Rattle.flux_core.specs.CoreView
pub use Rattle.flux_core.specs.Stands
pub use Rattle.pair_machine.specs.Machine
