pub mod MoveList
pub mod Pieces
