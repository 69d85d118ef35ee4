pub mod Grammar
pub mod Limits
pub mod Messages
pub mod Names
pub mod Orders
pub mod Script
pub use Rattle.pair_machine.specs.Scripts
