pub mod Contents
pub mod ControllerPackets
pub mod ControllerView
pub mod Egress
pub mod Group
pub mod Ingress
pub mod IngressView
pub mod Outbox
pub mod Replica
pub mod ReplicaView
pub mod Steps
pub mod Work
pub use Rattle.ingress_egress.specs.EgressStands
pub use Rattle.ingress_egress.specs.EgressView
pub use Rattle.merge_order.specs.Edges
pub use Rattle.op_spec.specs.Times
pub use Rattle.pair_machine.specs.Boundary
pub use Rattle.pair_machine.specs.Consumers
pub use Rattle.pair_machine.specs.Counts
pub use Rattle.pair_machine.specs.Flow as PairMachineFlow
pub use Rattle.pair_machine.specs.Numbers as PairMachineNumbers
pub use Rattle.pair_machine.specs.Output
pub use Rattle.partition_step.specs.Places
pub use Rattle.plan_reader.specs.Nodes
pub use Rattle.plan_reader.specs.PlanView
pub use Rattle.trio_machine.specs.Flow as TrioMachineFlow
pub use Rattle.trio_machine.specs.Machine
pub use Rattle.trio_machine.specs.Messages
pub use Rattle.trio_machine.specs.Numbers as TrioMachineNumbers
pub use Rattle.tuple_edge.specs.Input
