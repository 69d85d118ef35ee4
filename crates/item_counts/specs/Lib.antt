pub use Rattle.pair_machine.specs.Edges
pub use Rattle.trade_text.specs.TradesView
