-- What an event asks of its node, and what it comes to there.
use Rattle.std.specs.Prelude.{◌≡◌, ◌<◌, ◌+◌, ℕ, List, Option, None, Some, Ok}
use Rattle.tuple_edge.specs.declared.item.Item.{Item}
use Rattle.tuple_edge.specs.Input.{Input}
use Rattle.tuple_edge.specs.Limits.{number_limit}
use Rattle.merge_order.specs.Edges.{item_at}
use Rattle.plan_reader.specs.PlanView.{PlanView}
use Rattle.pair_machine.specs.Boundary.{egress_partition}
use Rattle.pair_machine.specs.Counts.{items_on}
use Rattle.pair_machine.specs.Numbers.{Partition, in_edge}
use Rattle.trio_machine.specs.Asked.{Asks}
use Rattle.trio_machine.specs.Flow.{IsTrioPlan, trio_flow}
use Rattle.trio_machine.specs.Machine.{does, mark_of}
use Rattle.trio_machine.specs.Messages.{Act, Dies, Envelope, Makes, Message, Pulls, Takes, Works}
use Rattle.trio_machine.specs.Numbers.{Node}
use Rattle.trio_machine.specs.declared.body.TrioBody.{TrioBody}
use Rattle.trio_machine.specs.declared.body.TrioBody.TheVariants as body
use Rattle.trio_machine.specs.declared.node.TrioNode.{TrioNode}
use Rattle.trio_machine.specs.declared.node.TrioNode.TheVariants as node
use Rattle.trio_nodes.specs.Contents.{ArePacketsFor, BodyStands}
use Rattle.trio_core.specs.CoreView.{Log, name_of}
use Rattle.trio_core.specs.Refusals.{IsRefusal}
use Rattle.trio_core.specs.Stands.{AreTimely, MemberStands}
use Rattle.trio_core.specs.declared.error.TrioError.{TrioError}
use Rattle.trio_core.specs.declared.member.Member.{Member}
use Rattle.trio_core.specs.declared.task.TrioTask.{TrioTask}
use Rattle.trio_core.specs.declared.task.TrioTask.TheVariants as task

-- the partition of a node that merges
abbrev pub merges_at : PlanView → List Input → TrioNode → Partition
merges_at plan inputs node.Ingress = record { stage = 0; part = 0 }
merges_at plan inputs (node.Replica s p c) = record { stage = s; part = p }
merges_at plan inputs (node.Control s p) = record { stage = 0; part = 0 }
merges_at plan inputs node.Egress = egress_partition (trio_flow plan inputs)

-- an item is the one after the node's mark on its in-edge from a source
abbrev pub IsNextAt : PlanView → List Input → TrioNode → ℕ → Item → Option ℕ → Type 0
IsNextAt plan inputs n q i None = ⊥
IsNextAt plan inputs n q i (Some mark) = item_at (items_on plan inputs (in_edge (merges_at plan inputs n) q)) (mark + 1) ≡ Some i

-- the machine's act that a task stands for, at a node of these numbers
abbrev pub IsActOf : PlanView → List Input → TrioNode → TrioTask → Node → Act → Type 0
IsActOf plan inputs n (task.Take from b) x a = (m : Message) × (a ≡ Takes from m) × BodyStands plan inputs b m
IsActOf plan inputs n task.Work x a = a ≡ Works
IsActOf plan inputs n task.Make x a = a ≡ Makes
IsActOf plan inputs n task.Kill x a = a ≡ Dies
IsActOf plan inputs n (task.Pull q i) x a = (a ≡ Pulls q) × IsNextAt plan inputs n q i (mark_of q n x)

-- A node stands for numbers at which the act that a task stands for may be asked of it.
pub record IsAsked (plan : PlanView) (inputs : List Input) (t : TrioTask) (m : Member) (x : Node) (a : Act) : Type 0 where
  pub plan_is : IsTrioPlan plan
  pub times : AreTimely inputs
  pub act : IsActOf plan inputs (name_of m) t x a
  pub stands : MemberStands plan inputs m x
  pub asks : Asks (trio_flow plan inputs) (name_of m) x a

-- so it does in some plan, for some inputs and numbers
pub record MayBeAsked (t : TrioTask) (m : Member) : Type 0 where
  pub plan : PlanView
  pub inputs : List Input
  pub numbers : Node
  pub act : Act
  pub asked : IsAsked plan inputs t m numbers act

-- the machine does the act, the node stands for the numbers after it, and what was sent for the machine's messages
pub record IsDone (plan : PlanView) (inputs : List Input) (m : Member) (sent : Log) (x : Node) (a : Act) (n : TrioNode) : Type 0 where
  pub done : Node × List Envelope
  pub does : does (trio_flow plan inputs) n a x ≡ Ok done
  pub stands : MemberStands plan inputs m done.0
  pub packets : ArePacketsFor plan inputs sent done.1

-- The node did its part of the machine's step: whatever numbers it stood for, in whatever plan.
abbrev pub ActsSo : TrioTask → Member → Member → Log → Type 0
ActsSo t old new sent = (plan : PlanView) (inputs : List Input) (x : Node) (a : Act) → IsAsked plan inputs t old x a → IsDone plan inputs new sent x a (name_of old)

-- the machine refuses the act, for this reason
abbrev pub IsRefusedSo : TrioTask → Member → TrioError → Type 0
IsRefusedSo t m e = (plan : PlanView) (inputs : List Input) (x : Node) (a : Act) → IsAsked plan inputs t m x a → IsRefusal (does (trio_flow plan inputs) (name_of m) a x) e

-- the number of an acknowledgement is within its limit
abbrev pub Fits : TrioBody → Type 0
Fits (body.Ack e upto) = upto < number_limit
Fits b = Unit {0}
