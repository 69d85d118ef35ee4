pub mod Names
pub use Rattle.trade_text.specs.Limits
pub use Rattle.trade_text.specs.Text
