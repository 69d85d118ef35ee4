-- What a call at a node owes to the machine of groups.
use Rattle.std.specs.Prelude.{◌≡◌, List, Ok, Err}
use Rattle.tuple_edge.specs.Input.{Input}
use Rattle.plan_reader.specs.PlanView.{PlanView}
use Rattle.trio_machine.specs.Asked.{Asks}
use Rattle.trio_machine.specs.Flow.{trio_flow}
use Rattle.trio_machine.specs.Machine.{does}
use Rattle.trio_machine.specs.Messages.{Act, Envelope, Message, Refusal, Takes}
use Rattle.trio_machine.specs.Numbers.{Node}
use Rattle.trio_machine.specs.declared.body.TrioBody.{TrioBody}
use Rattle.trio_machine.specs.declared.node.TrioNode.{TrioNode}
use Rattle.trio_nodes.specs.Contents.{ArePacketsFor, BodyStands}

-- An act of a node: at whatever numbers the node stands for, where they are as in a sound state, the machine's act is a step, the node
-- stands for the numbers after it, and the packets sent stand for what the machine sends.
abbrev pub IsStep : PlanView → List Input → TrioNode → (Stands StandsAfter : Node → Type 0) → Act → List (TrioNode × TrioBody) → Type 0
IsStep plan inputs n Stands StandsAfter a sent =
    (x : Node) → Stands x → Asks (trio_flow plan inputs) n x a
    → (d : Node × List Envelope) × (does (trio_flow plan inputs) n a x ≡ Ok d) × StandsAfter d.0 × ArePacketsFor plan inputs sent d.1

-- the taking of a packet, whatever message it stands for
abbrev pub IsTaken : PlanView → List Input → TrioNode → (Stands StandsAfter : Node → Type 0) → TrioNode → TrioBody → List (TrioNode × TrioBody) → Type 0
IsTaken plan inputs n Stands StandsAfter from b sent = (m : Message) → BodyStands plan inputs b m → IsStep plan inputs n Stands StandsAfter (Takes from m) sent

-- an act that the machine refuses
abbrev pub IsRefused : PlanView → List Input → TrioNode → (Stands : Node → Type 0) → Act → Refusal → Type 0
IsRefused plan inputs n Stands a r = (x : Node) → Stands x → does (trio_flow plan inputs) n a x ≡ Err r
