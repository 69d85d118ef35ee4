pub mod Lines
pub mod Written
pub use Rattle.flux_outside.specs.Outside
pub use Rattle.flux_outside.specs.Told
pub use Rattle.ordered_channel.specs.Ends
pub use Rattle.trade_text.specs.Text
