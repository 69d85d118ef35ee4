pub mod ConsumerView
pub use Rattle.merge_order.specs.Edges
pub use Rattle.merge_order.specs.MergeView
pub use Rattle.merge_order.specs.Merged
pub use Rattle.merge_order.specs.StandsFor
pub use Rattle.tuple_edge.specs.Limits
