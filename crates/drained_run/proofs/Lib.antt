pub mod Ascending
pub mod Ending
pub mod Fronts
pub mod Joined
pub mod Logs
pub mod Nodes
