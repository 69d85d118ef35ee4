pub mod Entries
pub mod Events
pub mod Grammar
pub mod Limits
pub mod Listing
pub mod Logs
pub mod Messages
pub mod Names
pub mod Reading
pub mod Text
pub use Rattle.pair_machine.specs.Joint
pub use Rattle.plan_reader.specs.PlanView
pub use Rattle.text_words.specs.Reading as TextWordsReading
pub use Rattle.text_words.specs.Text as TextWordsText
