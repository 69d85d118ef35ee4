pub mod Due
pub mod Limits
pub mod OutEdge
pub mod ProducerView
pub mod StandsFor
pub use Rattle.ack_buffer.specs.Buffer
pub use Rattle.tuple_edge.specs.Limits as TupleEdgeLimits
