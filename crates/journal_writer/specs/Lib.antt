pub mod Lines
pub mod Merged
pub use Rattle.event_log.specs.Views
pub use Rattle.run_journal.specs.Text as RunJournalText
pub use Rattle.text_words.specs.Text as TextWordsText
