pub mod Caught
pub mod Fold
pub mod NewcomerView
pub mod Rebuild
pub use Rattle.flux_consumer.specs.ConsumerView
pub use Rattle.flux_producer.specs.Limits as FluxProducerLimits
pub use Rattle.flux_producer.specs.ProducerView
pub use Rattle.op_spec.specs.Spec
pub use Rattle.tuple_edge.specs.Limits as TupleEdgeLimits
