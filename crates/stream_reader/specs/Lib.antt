pub mod Parts
pub mod Telling
pub use Rattle.byte_source.specs.Told
pub use Rattle.trade_stream.specs.Pushed
