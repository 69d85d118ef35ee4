pub mod Pushed
pub use Rattle.trade_text.specs.Limits
pub use Rattle.trade_text.specs.Streams
pub use Rattle.trade_text.specs.Symbols
pub use Rattle.trade_text.specs.TradesView
