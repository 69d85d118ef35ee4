pub mod Laws
pub mod Sifted
pub use Rattle.record_faults.specs.EachRecord
pub use Rattle.trade_text.specs.Refusals
