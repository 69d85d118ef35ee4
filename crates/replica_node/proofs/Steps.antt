-- What an event comes to: the replica stands for the machine's numbers after it, and what it sent for the machine's messages.
use Rattle.std.proofs.Common.{List}
use Rattle.tuple_edge.specs.declared.node.NodeId.{NodeId}
use Rattle.tuple_edge.specs.declared.packet.Body.{Body}
use Rattle.tuple_edge.specs.Input.{Input}
use Rattle.plan_reader.specs.PlanView.{PlanView}
use Rattle.pair_machine.specs.Contents.{BodyStands}
use Rattle.pair_machine.specs.Courses.{ArePacketsFor}
use Rattle.pair_machine.specs.Messages.{Envelope}
use Rattle.pair_machine.specs.Numbers.{Replica}
use Rattle.replica_node.specs.ReplicaView.{node_of, partition_of}
use Rattle.replica_node.specs.StandsFor.{PhaseStands}
use Rattle.replica_node.specs.declared.phase.Phase.{Phase}
use Rattle.replica_node.specs.declared.role.Role.{Role}

pub record ComesTo (plan : PlanView) (inputs : List Input) (role : Role) (after : Phase) (sent : List (NodeId × Body)) (d : Replica × List Envelope) : Type 0 where
  pub stands : PhaseStands plan inputs (partition_of role) after d.0
  pub packets : ArePacketsFor (BodyStands plan inputs) (node_of role) sent d.1
