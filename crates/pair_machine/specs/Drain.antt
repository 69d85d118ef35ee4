-- The drain: from a state in which no pair is lost, the events by which ingress makes all, each pair's drainer takes and merges all, stage by
-- stage, and egress does so at last. They take and send no message. They follow from the numbers of the nodes alone.
use Rattle.std.specs.Prelude.{◌≡◌, ◌++◌, ◌==◌, ◌&&◌, ◌-◌, ◌+◌, ℕ, zero, suc, Bool, true, false, List, [], ◌∷◌, Option, None, Some, Result, Ok, Err, if◌then◌else◌, replicate}
use Rattle.tuple_edge.specs.Input.{Input}
use Rattle.tuple_edge.specs.declared.event.Event.{Event}
use Rattle.tuple_edge.specs.declared.event.Event.TheVariants as event
use Rattle.tuple_edge.specs.declared.node.LinkId.{LinkId}
use Rattle.tuple_edge.specs.declared.node.NodeId.{NodeId}
use Rattle.tuple_edge.specs.declared.node.NodeId.TheVariants as node
use Rattle.tuple_edge.specs.declared.node.Which.{Which}
use Rattle.tuple_edge.specs.declared.node.Which.TheVariants.{A, B}
use Rattle.plan_reader.specs.PlanView.{IsPlan, PlanView}
use Rattle.pair_machine.specs.Boundary.{egress_partition}
use Rattle.pair_machine.specs.Consumers.{is_ready}
use Rattle.pair_machine.specs.Controllers.{counts}
use Rattle.pair_machine.specs.CountLaws.{IsOfStage, output_first}
use Rattle.pair_machine.specs.Counts.{flow_of}
use Rattle.pair_machine.specs.Flow.{Flow}
use Rattle.pair_machine.specs.Journal.{NeedsNoOrder, TakesNoMessage}
use Rattle.pair_machine.specs.Legal.{IsLegal, IsLegalFrom}
use Rattle.pair_machine.specs.Lengths.{NodeBound}
use Rattle.pair_machine.specs.Links.{IsThere}
use Rattle.pair_machine.specs.Lists.{Each}
use Rattle.pair_machine.specs.Machine.{State, egress_in, ingress_in, new_consumer, replica_in, step}
use Rattle.pair_machine.specs.Messages.{Refusal}
use Rattle.pair_machine.specs.Numbers.{Consumer, Node, Partition, Replica, Gone, Running, Gathering, in_edge, replica_at}
use Rattle.pair_machine.specs.Output.{output}
use Rattle.pair_machine.specs.Pairs.{Side, side_of}
use Rattle.pair_machine.specs.Replicas.{inc_of, sum_below}
use Rattle.pair_machine.specs.Scripts.{AreWithin, IsSafe}
use Rattle.pair_machine.specs.Sound.{IsLost, IsOwed, IsServed, IsSound}
use Rattle.pair_machine.specs.declared.order.Order.{Order}

-- ---- who drains, and which pair is lost

-- whether a replica runs; one that gathers does not
abbrev pub is_running : Replica → Bool
is_running (Gone i) = false
is_running (Running x) = true
is_running (Gathering g) = false

-- whether a replica runs and is counted
abbrev pub is_serving : Side → Bool
is_serving a = is_running a.replica && counts a.watched (inc_of a.replica)

-- a pair's drainer is its first replica that serves
abbrev pub drainer : State → Partition → Which
drainer s p = if is_serving (side_of s p A) then A else B

-- whether no replica of the pair serves
abbrev pub is_lost : State → Partition → Bool
is_lost s p = if is_serving (side_of s p A) then false else if is_serving (side_of s p B) then false else true

-- a partition by its stage, of which 0 is ingress, and by its number in the stage, from 0
abbrev pub partition : (stage part : ℕ) → Partition
partition stage part = record { stage = stage; part = part }

-- the first n partitions of a stage
abbrev pub parts_below : (stage n : ℕ) → List Partition
parts_below stage zero = []
parts_below stage (suc n) = parts_below stage n ++ partition stage n ∷ []

-- the pairs of the first k stages, stage by stage
abbrev pub pairs_up_to : Flow → ℕ → List Partition
pairs_up_to f zero = []
pairs_up_to f (suc k) = pairs_up_to f k ++ parts_below (suc k) (f.sources (suc k + 1))

-- the first pair of a list that is lost
abbrev pub first_lost : State → List Partition → Option Partition
first_lost s [] = None
first_lost s (p ∷ ps) = if is_lost s p then Some p else first_lost s ps

-- ---- the drain's events

-- the numbers by which a replica takes and merges, where it runs
abbrev pub consumer_in : Replica → Consumer
consumer_in (Gone i) = new_consumer
consumer_in (Running x) = x.consumer
consumer_in (Gathering g) = new_consumer

-- how many items of in-edge q are not taken yet
abbrev pub left_on : Flow → Partition → Consumer → ℕ → ℕ
left_on f p c q = f.length (in_edge p q) - c.marks q

-- the partition of the stage before, from which in-edge q comes
abbrev pub source_of : Partition → ℕ → Partition
source_of p q = partition (p.stage - 1) q

-- from the drainer of each of the first n sources, all that is left
abbrev pub pulls_below : Flow → State → Partition → NodeId → Consumer → ℕ → List Event
pulls_below f s p to c zero = []
pulls_below f s p to c (suc q) = pulls_below f s p to c q ++ replicate (left_on f p c q) (event.Pull (replica_at (source_of p q) (drainer s (source_of p q))) to)

-- From ingress all that is left of all sources: a pull takes of a source that is ahead as long as any is. After stage 1, source by source.
abbrev pub pulls_into : Flow → State → Partition → NodeId → Consumer → List Event
pulls_into f s p to c =
    if p.stage == 1 then replicate (sum_below (f.sources p.stage) (left_on f p c)) (event.Pull node.Ingress to)
    else pulls_below f s p to c (f.sources p.stage)

-- a consumer takes all that is left, then merges all that is left
abbrev pub drain_into : Flow → State → Partition → NodeId → Consumer → List Event
drain_into f s p to c = pulls_into f s p to c ++ replicate (f.total p - c.count) (event.Work to)

-- the drainer of a pair does so
abbrev pub drain_pair : Flow → State → Partition → List Event
drain_pair f s p = let to = replica_at p (drainer s p) in drain_into f s p to (consumer_in (replica_in (s.nodes to)))

-- these pairs drain one after another, each by its numbers in the state before the drain, since none changes another's consumer
abbrev pub drain_pairs : Flow → State → List Partition → List Event
drain_pairs f s [] = []
drain_pairs f s (p ∷ ps) = drain_pair f s p ++ drain_pairs f s ps

-- ingress makes all that is left, then each pair drains, then egress
abbrev pub drain_events : Flow → State → List Event
drain_events f s =
    replicate (f.makes - (ingress_in (s.nodes node.Ingress)).makes) event.Make
    ++ (drain_pairs f s (pairs_up_to f f.stages) ++ drain_into f s (egress_partition f) node.Egress (egress_in (s.nodes node.Egress)))

-- the drain where no pair is lost; where egress has merged all it does nothing
abbrev pub drain : Flow → State → List Event
drain f s = if (egress_in (s.nodes node.Egress)).count == f.total (egress_partition f) then [] else drain_events f s

-- egress has merged all
abbrev pub IsEgressDone : Flow → State → Type 0
IsEgressDone f s = (egress_in (s.nodes node.Egress)).count ≡ f.total (egress_partition f)

-- ---- what the drain needs, and keeps

-- what it needs of the numbers of the nodes: the buffers hold what takeover owes, and each number is within its length. Nothing is asked of links.
pub record IsDrainable (f : Flow) (s : State) : Type 0 where
  pub owed : IsOwed f s
  pub within : (n : NodeId) → NodeBound f n (s.nodes n)

-- the node's merge is ready
abbrev pub ReplicaIsReady : Flow → Partition → Replica → Type 0
ReplicaIsReady f p (Gone i) = ⊥
ReplicaIsReady f p (Running x) = is_ready f p x.consumer ≡ true
ReplicaIsReady f p (Gathering g) = ⊥

-- the same of any node; ingress and a controller merge nothing, so theirs never is
abbrev pub MergeIsReady : Flow → NodeId → Node → Type 0
MergeIsReady f node.Ingress x = ⊥
MergeIsReady f (node.Replica s p w) x = ReplicaIsReady f (partition s p) (replica_in x)
MergeIsReady f (node.Control s p) x = ⊥
MergeIsReady f node.Egress x = is_ready f (egress_partition f) (egress_in x) ≡ true

-- an event as the drain has them: a make, a pull, or the work of a node whose merge is ready
abbrev pub IsDrainEvent : Flow → State → Event → Type 0
IsDrainEvent f s event.Make = Unit {0}
IsDrainEvent f s (event.Pull from to) = Unit {0}
IsDrainEvent f s (event.Work n) = MergeIsReady f n (s.nodes n)
IsDrainEvent f s e = ⊥

-- all events of a list are so, each in the state before it
abbrev pub AreDrainEvents : Flow → List Event → Result State Refusal → Type 0
AreDrainEvents f [] r = Unit {0}
AreDrainEvents f (e ∷ es) (Ok s) = IsDrainEvent f s e × AreDrainEvents f es (step f s e)
AreDrainEvents f (e ∷ es) (Err x) = Unit {0}

-- nothing was sent between two states
abbrev pub IsQuiet : State → State → Type 0
IsQuiet s t = (l : LinkId) → t.sent l ≡ s.sent l

-- such an event keeps what the drain needs, and sends nothing
abbrev pub DrainEventsKeepOwed : Type 0
DrainEventsKeepOwed = (plan : PlanView) (inputs : List Input) → IsPlan plan → (s t : State) (e : Event) → IsThere (flow_of plan inputs) e → IsDrainEvent (flow_of plan inputs) s e
    → IsDrainable (flow_of plan inputs) s → step (flow_of plan inputs) s e ≡ Ok t → IsDrainable (flow_of plan inputs) t × IsQuiet s t

-- p is the first lost one among these: those that stand before it are served
pub record IsFirstLost (s : State) (ps : List Partition) (p : Partition) : Type 0 where
  pub before : List Partition
  pub after : List Partition
  pub whole : before ++ p ∷ after ≡ ps
  pub served : Each (IsServed s) before
  pub lost : IsLost s p

-- what is found is a pair of the plan and the first lost one, and every pair of the plan is served where none is found
pub record FindsLost (f : Flow) (s : State) : Type 0 where
  pub there : (p : Partition) → first_lost s (pairs_up_to f f.stages) ≡ Some p → IsOfStage f p
  pub first : (p : Partition) → first_lost s (pairs_up_to f f.stages) ≡ Some p → IsFirstLost s (pairs_up_to f f.stages) p
  pub none : first_lost s (pairs_up_to f f.stages) ≡ None → (p : Partition) → IsOfStage f p → IsServed s p

-- so it is in every state of every flow, also one that no legal list reaches
abbrev pub LostPairsAreFound : Type 0
LostPairsAreFound = (f : Flow) (s : State) → FindsLost f s

-- ---- the drain is whole

-- ingress has made all, and all that the drainers of a state were to merge is merged in another
pub record IsEmptied (f : Flow) (s t : State) : Type 0 where
  pub makes : (ingress_in (t.nodes node.Ingress)).makes ≡ f.makes
  pub merged : (p : Partition) → IsOfStage f p → (consumer_in (replica_in (t.nodes (replica_at p (drainer s p))))).count ≡ f.total p

-- The drain's events are legal from a state and send nothing, and in the state that they reach egress has merged all, so that what it has
-- emitted is all of the output. They are those of a loop that pulls as long as the source has made more, since a pull of more would be refused, and
-- then works as long as the merge is ready: where there was something to do, nothing is left to make or to merge.
pub record IsDrained (plan : PlanView) (inputs : List Input) (s : State) : Type 0 where
  pub reached : State
  pub legal : IsLegalFrom (flow_of plan inputs) s (drain (flow_of plan inputs) s) reached
  pub ready : AreDrainEvents (flow_of plan inputs) (drain (flow_of plan inputs) s) (Ok s)
  pub quiet : IsQuiet s reached
  pub emptied : (IsEgressDone (flow_of plan inputs) s → ⊥) → IsEmptied (flow_of plan inputs) s reached
  pub done : IsEgressDone (flow_of plan inputs) reached
  pub output : output_first plan inputs (egress_in (reached.nodes node.Egress)).count ≡ output plan inputs

-- so it is where a state can be drained and each pair of the plan is served, also where the state isn't sound
abbrev pub DrainIsWhole : Type 0
DrainIsWhole = (plan : PlanView) (inputs : List Input) → IsPlan plan → (s : State) → IsDrainable (flow_of plan inputs) s → ((p : Partition) → IsOfStage (flow_of plan inputs) p → IsServed s p)
    → IsDrained plan inputs s

-- the drain's events take no message and need no order of a script, from any state
pub record AreFree (es : List Event) : Type 0 where
  pub no_message : Each TakesNoMessage es
  pub no_order : Each NeedsNoOrder es

-- so it is of the drain of every state, also where it can't be drained or a pair is lost
abbrev pub DrainsAreFree : Type 0
DrainsAreFree = (f : Flow) (s : State) → AreFree (drain f s)

-- ---- after a run

-- a sound state is one from which the drain may begin
abbrev pub SoundStatesAreDrainable : Type 0
SoundStatesAreDrainable = (plan : PlanView) (inputs : List Input) → IsPlan plan → (s : State) → IsSound (flow_of plan inputs) s → IsDrainable (flow_of plan inputs) s

-- A list and then the drain of a state are one legal list within a script, and in the state that both reach egress has merged all, so that what
-- it has emitted is all of the output.
pub record IsDrainedAfter (plan : PlanView) (inputs : List Input) (script : List Order) (es : List Event) (s : State) : Type 0 where
  pub reached : State
  pub legal : IsLegal (flow_of plan inputs) (es ++ drain (flow_of plan inputs) s) reached
  pub within : AreWithin (flow_of plan inputs) script (es ++ drain (flow_of plan inputs) s)
  pub done : IsEgressDone (flow_of plan inputs) reached
  pub output : output_first plan inputs (egress_in (reached.nodes node.Egress)).count ≡ output plan inputs

-- So it is of a legal list within a script and the drain of any state with the nodes that it reaches, whatever was sent there, where no pair is
-- lost. Under a safe script none is.
abbrev pub RunsAreDrained : Type 0
RunsAreDrained = (plan : PlanView) (inputs : List Input) → IsPlan plan → (script : List Order) (es : List Event) (s u : State) → IsLegal (flow_of plan inputs) es s
    → AreWithin (flow_of plan inputs) script es → u.nodes ≡ s.nodes → ((p : Partition) → IsOfStage (flow_of plan inputs) p → IsServed u p)
    → IsDrainedAfter plan inputs script es u

-- the same under a safe script, where it need not be asked that each pair is served
abbrev pub SafeRunsAreDrained : Type 0
SafeRunsAreDrained = (plan : PlanView) (inputs : List Input) → IsPlan plan → (script : List Order) → IsSafe script → (es : List Event) (s u : State) → IsLegal (flow_of plan inputs) es s
    → AreWithin (flow_of plan inputs) script es → u.nodes ≡ s.nodes → IsDrainedAfter plan inputs script es u
