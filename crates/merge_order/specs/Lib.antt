pub mod Counts
pub mod Edges
pub mod HeadStamps
pub mod MergeView
pub mod Merged
pub mod Runs
pub mod StandsFor
pub use Rattle.tuple_edge.specs.Limits
