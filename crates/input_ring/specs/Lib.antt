pub mod Ends
pub mod Limits
pub use Rattle.node_tasks.specs.Coming
