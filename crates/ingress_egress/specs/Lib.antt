pub mod EgressStands
pub mod EgressView
pub mod IngressStands
pub mod IngressView
pub mod Small
pub use Rattle.flux_producer.specs.ProducerView
pub use Rattle.merge_order.specs.Edges as MergeOrderEdges
pub use Rattle.node_edges.specs.OutEdges
pub use Rattle.pair_machine.specs.Boundary
pub use Rattle.pair_machine.specs.Consumers
pub use Rattle.pair_machine.specs.Contents
pub use Rattle.pair_machine.specs.CountLaws
pub use Rattle.pair_machine.specs.Counts
pub use Rattle.pair_machine.specs.Edges as PairMachineEdges
pub use Rattle.pair_machine.specs.Links
pub use Rattle.pair_machine.specs.Lists
pub use Rattle.pair_machine.specs.Machine
pub use Rattle.pair_machine.specs.Messages
pub use Rattle.pair_machine.specs.Numbers
pub use Rattle.pair_machine.specs.Output
pub use Rattle.pair_machine.specs.Receivers
pub use Rattle.pair_machine.specs.Sound
pub use Rattle.plan_reader.specs.Nodes
pub use Rattle.plan_reader.specs.PlanView
pub use Rattle.stream_ops.specs.Times
pub use Rattle.trade_text.specs.TradesView
pub use Rattle.tuple_edge.specs.Input
