pub mod Lines
pub mod Order
pub mod Scans
pub use Rattle.trade_text.specs.TradesView
