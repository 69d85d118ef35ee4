pub mod MoverView
pub use Rattle.move_list.specs.MoveList
pub use Rattle.move_list.specs.Pieces
pub use Rattle.tuple_edge.specs.Limits
