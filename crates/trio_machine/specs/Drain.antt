-- The drain: from a state in which no group is lost, the events by which ingress makes all, each group's server takes and merges all, stage
-- by stage, and egress does so at last. They take and send no message. They follow from the numbers of the nodes alone.
use Rattle.std.specs.Prelude.{◌≡◌, ◌++◌, ◌==◌, ◌&&◌, ◌-◌, ℕ, zero, suc, Bool, true, false, List, [], ◌∷◌, Option, None, Some, Result, Ok, Err, if◌then◌else◌, is_none, replicate, unwrap_or}
use Rattle.tuple_edge.specs.Input.{Input}
use Rattle.plan_reader.specs.PlanView.{PlanView}
use Rattle.pair_machine.specs.Boundary.{egress_partition}
use Rattle.pair_machine.specs.Consumers.{first_below, is_ready}
use Rattle.pair_machine.specs.CountLaws.{IsOfStage, output_first}
use Rattle.pair_machine.specs.Drain.{left_on, pairs_up_to, partition, source_of}
use Rattle.pair_machine.specs.Flow.{Flow}
use Rattle.pair_machine.specs.Lists.{Each}
use Rattle.pair_machine.specs.Machine.{new_consumer}
use Rattle.pair_machine.specs.Numbers.{Consumer, Partition}
use Rattle.pair_machine.specs.Output.{output}
use Rattle.trio_machine.specs.Flow.{IsTrioPlan, trio_flow}
use Rattle.trio_machine.specs.Legal.{IsLegalFrom}
use Rattle.trio_machine.specs.Machine.{State, controller_in, egress_in, ingress_in, replica_in, step}
use Rattle.trio_machine.specs.Messages.{Refusal}
use Rattle.trio_machine.specs.Numbers.{Replica, Gone, Running, Node, control_at, group_size, replica_at}
use Rattle.trio_machine.specs.Reports.{replicas_of}
use Rattle.trio_machine.specs.Sound.{IsLost, IsServed, IsSound}
use Rattle.trio_machine.specs.declared.event.TrioEvent.{TrioEvent}
use Rattle.trio_machine.specs.declared.event.TrioEvent.TheVariants as event
use Rattle.trio_machine.specs.declared.node.TrioNode.{TrioNode}
use Rattle.trio_machine.specs.declared.node.TrioNode.TheVariants as node

-- ---- who drains, and which group is lost

-- whether a replica still runs: one that is gone never does again
abbrev pub is_running : Replica → Bool
is_running Gone = false
is_running (Running x) = true

-- whether replica c runs and is counted
abbrev pub is_serving : State → Partition → ℕ → Bool
is_serving s p c = is_running (replicas_of s p c) && (controller_in (s.nodes (control_at p))).up c

-- a group's server is its first replica that serves
abbrev pub server : State → Partition → ℕ
server s p = unwrap_or (first_below (is_serving s p) group_size) 0

-- whether no replica of the group serves
abbrev pub is_lost : State → Partition → Bool
is_lost s p = is_none (first_below (is_serving s p) group_size)

-- the first group of a list that is lost
abbrev pub first_lost : State → List Partition → Option Partition
first_lost s [] = None
first_lost s (p ∷ ps) = if is_lost s p then Some p else first_lost s ps

-- ---- the drain's events

-- the numbers by which a replica takes and merges, where it runs
abbrev pub consumer_in : Replica → Consumer
consumer_in Gone = new_consumer
consumer_in (Running x) = x.consumer

-- from whom the items of in-edge q are pulled: ingress, or the server of the source
abbrev pub feeder : State → Partition → ℕ → TrioNode
feeder s p q = if p.stage == 1 then node.Ingress else replica_at (source_of p q) (server s (source_of p q))

-- from each of the first n sources, all that is left
abbrev pub pulls_below : Flow → State → Partition → TrioNode → Consumer → ℕ → List TrioEvent
pulls_below f s p to c zero = []
pulls_below f s p to c (suc q) = pulls_below f s p to c q ++ replicate (left_on f p c q) (event.Pull (feeder s p q) to)

-- a consumer takes all that is left, then merges all that is left
abbrev pub drain_into : Flow → State → Partition → TrioNode → Consumer → List TrioEvent
drain_into f s p to c = pulls_below f s p to c (f.sources p.stage) ++ replicate (f.total p - c.count) (event.Work to)

-- the server of a group does so
abbrev pub drain_group : Flow → State → Partition → List TrioEvent
drain_group f s p = drain_into f s p (replica_at p (server s p)) (consumer_in (replicas_of s p (server s p)))

-- the groups drain one after another, each from the servers of the groups before it
abbrev pub drain_groups : Flow → State → List Partition → List TrioEvent
drain_groups f s [] = []
drain_groups f s (p ∷ ps) = drain_group f s p ++ drain_groups f s ps

-- ingress makes all that is left, then each group drains, then egress
abbrev pub drain_events : Flow → State → List TrioEvent
drain_events f s =
    replicate (f.makes - (ingress_in (s.nodes node.Ingress)).makes) event.Make
    ++ (drain_groups f s (pairs_up_to f f.stages) ++ drain_into f s (egress_partition f) node.Egress (egress_in (s.nodes node.Egress)))

-- the drain where no group is lost; where egress has merged all it does nothing
abbrev pub drain : Flow → State → List TrioEvent
drain f s = if (egress_in (s.nodes node.Egress)).count == f.total (egress_partition f) then [] else drain_events f s

-- egress has merged all
abbrev pub IsEgressDone : Flow → State → Type 0
IsEgressDone f s = (egress_in (s.nodes node.Egress)).count ≡ f.total (egress_partition f)

-- ---- how the drain goes

-- the node's merge is ready
abbrev pub ReplicaIsReady : Flow → Partition → Replica → Type 0
ReplicaIsReady f p Gone = ⊥
ReplicaIsReady f p (Running x) = is_ready f p x.consumer ≡ true

-- a node has a merge that is ready; ingress and controllers have none
abbrev pub MergeIsReady : Flow → TrioNode → Node → Type 0
MergeIsReady f node.Ingress x = ⊥
MergeIsReady f (node.Replica s p c) x = ReplicaIsReady f (partition s p) (replica_in x)
MergeIsReady f (node.Control s p) x = ⊥
MergeIsReady f node.Egress x = is_ready f (egress_partition f) (egress_in x) ≡ true

-- an event as the drain has them: a make, a pull, or the work of a node whose merge is ready
abbrev pub IsDrainEvent : Flow → State → TrioEvent → Type 0
IsDrainEvent f s event.Make = Unit {0}
IsDrainEvent f s (event.Pull from to) = Unit {0}
IsDrainEvent f s (event.Work n) = MergeIsReady f n (s.nodes n)
IsDrainEvent f s e = ⊥

-- all events of a list are so, each in the state before it
abbrev pub AreDrainEvents : Flow → List TrioEvent → Result State Refusal → Type 0
AreDrainEvents f [] r = Unit {0}
AreDrainEvents f (e ∷ es) (Ok s) = IsDrainEvent f s e × AreDrainEvents f es (step f s e)
AreDrainEvents f (e ∷ es) (Err x) = Unit {0}

-- nothing was sent between two states
abbrev pub IsQuiet : State → State → Type 0
IsQuiet s t = (from to : TrioNode) → t.sent from to ≡ s.sent from to

-- ---- the first lost group

-- p is the first lost one among these: those that stand before it are served
pub record IsFirstLost (s : State) (ps : List Partition) (p : Partition) : Type 0 where
  pub before : List Partition
  pub after : List Partition
  pub whole : before ++ p ∷ after ≡ ps
  pub served : Each (IsServed s) before
  pub lost : IsLost s p

-- what is found is a group of the plan and the first lost one, and every group of the plan is served where none is found
pub record FindsLost (f : Flow) (s : State) : Type 0 where
  pub there : (p : Partition) → first_lost s (pairs_up_to f f.stages) ≡ Some p → IsOfStage f p
  pub first : (p : Partition) → first_lost s (pairs_up_to f f.stages) ≡ Some p → IsFirstLost s (pairs_up_to f f.stages) p
  pub none : first_lost s (pairs_up_to f f.stages) ≡ None → (p : Partition) → IsOfStage f p → IsServed s p

-- the search for a lost group is right in every state, sound or not
abbrev pub LostGroupsAreFound : Type 0
LostGroupsAreFound = (f : Flow) (s : State) → FindsLost f s

-- ---- the drain is whole

-- ingress has made all, and all that the servers of a state were to merge is merged in another
pub record IsEmptied (f : Flow) (s t : State) : Type 0 where
  pub makes : (ingress_in (t.nodes node.Ingress)).makes ≡ f.makes
  pub merged : (p : Partition) → IsOfStage f p → (consumer_in (replicas_of t p (server s p))).count ≡ f.total p

-- The drain's events are legal from a state and send nothing, and in the state that they reach egress has merged all, so that what it has
-- emitted is all of the output. They are those of a loop that pulls until the mark is what the source has made, and then works as long as the
-- merge is ready: where there was something to do, nothing is left to make or to merge.
pub record IsDrained (plan : PlanView) (inputs : List Input) (s : State) : Type 0 where
  pub reached : State
  pub legal : IsLegalFrom (trio_flow plan inputs) s (drain (trio_flow plan inputs) s) reached
  pub ready : AreDrainEvents (trio_flow plan inputs) (drain (trio_flow plan inputs) s) (Ok s)
  pub quiet : IsQuiet s reached
  pub emptied : (IsEgressDone (trio_flow plan inputs) s → ⊥) → IsEmptied (trio_flow plan inputs) s reached
  pub done : IsEgressDone (trio_flow plan inputs) reached
  pub output : output_first plan inputs (egress_in (reached.nodes node.Egress)).count ≡ output plan inputs

-- from every sound state in which each group is served the drain leads to the end, and the output is whole there
abbrev pub DrainIsWhole : Type 0
DrainIsWhole = (plan : PlanView) (inputs : List Input) → IsTrioPlan plan → (s : State) → IsSound (trio_flow plan inputs) s → ((p : Partition) → IsOfStage (trio_flow plan inputs) p → IsServed s p)
    → IsDrained plan inputs s
