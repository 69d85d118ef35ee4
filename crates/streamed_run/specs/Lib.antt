pub mod Streamed
pub use Rattle.drained_run.specs.Ended
pub use Rattle.partition_runner.specs.Feeds
pub use Rattle.partition_runner.specs.Job
pub use Rattle.partition_runner.specs.Streams
