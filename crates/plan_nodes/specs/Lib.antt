pub mod NodeOrder
pub mod States
pub use Rattle.pair_machine.specs.Counts
pub use Rattle.pair_machine.specs.Machine
pub use Rattle.plan_reader.specs.Nodes
pub use Rattle.trade_text.specs.TradesView
pub use Rattle.tuple_edge.specs.Input
pub use Rattle.tuple_edge.specs.Limits
