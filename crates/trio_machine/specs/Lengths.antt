-- Every number is within the lengths of the lists that it counts: a node's marks and counts, and a tuple's number.
use Rattle.std.specs.Prelude.{◌≤◌}
use Rattle.pair_machine.specs.Boundary.{egress_partition}
use Rattle.pair_machine.specs.Drain.{partition}
use Rattle.pair_machine.specs.Flow.{Flow}
use Rattle.pair_machine.specs.Lengths.{ConsumerBound, ProducerBound}
use Rattle.pair_machine.specs.Numbers.{Partition}
use Rattle.trio_machine.specs.Machine.{egress_in, ingress_in, replica_in}
use Rattle.trio_machine.specs.Messages.{Message, Tuple}
use Rattle.trio_machine.specs.Numbers.{Replica, Gone, Running, Node}
use Rattle.trio_machine.specs.declared.node.TrioNode.{TrioNode}
use Rattle.trio_machine.specs.declared.node.TrioNode.TheVariants as node

-- a replica that runs has merged what it took and sent no further than it may; one that is gone owes nothing
abbrev pub ReplicaBound : Flow → Partition → Replica → Type 0
ReplicaBound f p Gone = Unit {0}
ReplicaBound f p (Running x) = ConsumerBound f p x.consumer × ProducerBound x.producer

-- what a node merged it took, what it took is on the edge, and each cursor is above what is acknowledged
abbrev pub NodeBound : Flow → TrioNode → Node → Type 0
NodeBound f node.Ingress x = ((ingress_in x).makes ≤ f.makes) × ProducerBound (ingress_in x).producer
NodeBound f (node.Replica s p c) x = ReplicaBound f (partition s p) (replica_in x)
NodeBound f (node.Control s p) x = Unit {0}
NodeBound f node.Egress x = ConsumerBound f (egress_partition f) (egress_in x)

-- a tuple's number is one of its edge
abbrev pub MessageBound : Flow → Message → Type 0
MessageBound f (Tuple e n) = (1 ≤ n) × (n ≤ f.length e)
MessageBound f m = Unit {0}
