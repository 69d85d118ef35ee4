pub mod GroupsText
pub mod Shown
pub mod WorkedTexts
pub use Rattle.trio_core.specs.CoreView
pub use Rattle.trio_core.specs.Stands
pub use Rattle.trio_machine.specs.Machine
