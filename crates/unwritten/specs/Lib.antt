pub use Rattle.event_log.specs.Views
