pub mod Parts
pub mod SafePairs
