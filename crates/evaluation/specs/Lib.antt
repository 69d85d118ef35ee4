pub mod StageRows
pub use Rattle.pair_machine.specs.Output
pub use Rattle.trade_text.specs.TradesView
