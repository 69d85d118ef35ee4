pub mod Events
pub mod Grammar
pub mod Laws
pub mod Names
pub mod Nodes
pub mod Text
pub use Rattle.run_journal.specs.Limits
pub use Rattle.run_journal.specs.Reading
