pub mod Consumers
pub mod OnEdges
pub mod OutEdges
pub mod Producers
