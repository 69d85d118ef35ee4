pub mod Timely
pub mod Tasks
pub mod Steps
pub mod Acted
pub mod Coming
pub mod Limits
pub use Rattle.pair_machine.specs.Machine
pub use Rattle.pair_machine.specs.Numbers
pub use Rattle.pair_machine.specs.Scripts
pub use Rattle.plan_reader.specs.Nodes
pub use Rattle.plan_reader.specs.PlanView
pub use Rattle.tuple_edge.specs.Input
pub use Rattle.tuple_edge.specs.Limits as TupleEdgeLimits
