pub mod Listed
pub use Rattle.partition_runner.specs.Job
pub use Rattle.trade_text.specs.TradesView
