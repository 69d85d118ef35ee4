pub mod StoryText
pub use Rattle.flux_core.specs.CoreView
pub use Rattle.flux_core.specs.Stands
pub use Rattle.pair_machine.specs.Machine
pub use Rattle.run_end.specs.Ends
pub use Rattle.run_watch.specs.Watching
