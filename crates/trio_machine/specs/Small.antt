-- Every number of the machine's nodes and messages, and how large they grow. No event makes a number that is more than one above the greatest one
-- before it, so a number is at most one more than the number of events. The numbers in the names of nodes and edges are the plan's, and none of these.
use Rattle.std.specs.Prelude.{◌<◌, ◌≤◌, ◌+◌, ◌-◌, ◌^◌, ℕ, List, length}
use Rattle.pair_machine.specs.Flow.{Flow}
use Rattle.pair_machine.specs.Lists.{Each}
use Rattle.pair_machine.specs.Small.{EachOfConsumer, EachOfProducer}
use Rattle.trio_machine.specs.Legal.{IsLegal}
use Rattle.trio_machine.specs.Machine.{State, controller_in, egress_in, ingress_in, replica_in}
use Rattle.trio_machine.specs.Messages.{Message, Tuple, Ack, Report, Lead, Down}
use Rattle.trio_machine.specs.Numbers.{Controller, Gone, Ingress, Node, Replica, Running, RunningNumbers}
use Rattle.trio_machine.specs.declared.event.TrioEvent.{TrioEvent}
use Rattle.trio_machine.specs.declared.node.TrioNode.{TrioNode}
use Rattle.trio_machine.specs.declared.node.TrioNode.TheVariants as node

-- ---- P holds of each number

-- P holds of each number of a replica that runs
pub record EachOfRunning (P : ℕ → Type 0) (x : RunningNumbers) : Type 0 where
  pub consumer : EachOfConsumer P x.consumer
  pub producer : EachOfProducer P x.producer

-- of each number of a replica; one that is gone has none
abbrev pub EachOfReplica : (ℕ → Type 0) → Replica → Type 0
EachOfReplica P Gone = Unit {0}
EachOfReplica P (Running x) = EachOfRunning P x

-- P holds of each number of a controller
pub record EachOfController (P : ℕ → Type 0) (x : Controller) : Type 0 where
  pub reports : (c q : ℕ) → P (x.reports c q)
  pub acked : (q : ℕ) → P (x.acked q)
  pub term : P x.term

-- P holds of each number of ingress
pub record EachOfIngress (P : ℕ → Type 0) (x : Ingress) : Type 0 where
  pub makes : P x.makes
  pub producer : EachOfProducer P x.producer

-- of each number of a node, of the kind that its name says
abbrev pub EachOfNode : (ℕ → Type 0) → TrioNode → Node → Type 0
EachOfNode P node.Ingress x = EachOfIngress P (ingress_in x)
EachOfNode P (node.Replica s p c) x = EachOfReplica P (replica_in x)
EachOfNode P (node.Control s p) x = EachOfController P (controller_in x)
EachOfNode P node.Egress x = EachOfConsumer P (egress_in x)

-- of the one number that a message carries; the news of a failure carries none
abbrev pub EachOfMessage : (ℕ → Type 0) → Message → Type 0
EachOfMessage P (Tuple e n) = P n
EachOfMessage P (Ack e k) = P k
EachOfMessage P (Report e k) = P k
EachOfMessage P (Lead t) = P t
EachOfMessage P Down = Unit {0}

-- of each number of every node and of every message that was ever sent
pub record EachNumber (P : ℕ → Type 0) (s : State) : Type 0 where
  pub nodes : (n : TrioNode) → EachOfNode P n (s.nodes n)
  pub sent : (from to : TrioNode) → Each (EachOfMessage P) (s.sent from to)

-- ---- how large they grow

-- in the state that a legal list reaches no number is above one more than the number of its events
abbrev pub NumbersStaySmall : Type 0
NumbersStaySmall = (f : Flow) (es : List TrioEvent) (t : State) → IsLegal f es t → EachNumber (λ n. n ≤ length es + 1) t

-- so after fewer than 2^61 events each is below 2^62 - 1, and may be counted on by one
abbrev pub NumbersFit : Type 0
NumbersFit = (f : Flow) (es : List TrioEvent) (t : State) → IsLegal f es t → length es < 2 ^ 61 → EachNumber (λ n. n < 2 ^ 62 - 1) t
