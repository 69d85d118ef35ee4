pub mod ConsumerLaws
pub mod InEdges
pub mod OutEdges
pub mod ProducerLaws
pub use Rattle.pair_machine.specs.Replicas
