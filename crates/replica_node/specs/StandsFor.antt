-- When a replica stands for a node's numbers: its contents are the parts of the plan's edges, of its operator's entries and of moves that the
-- numbers name.
use Rattle.std.specs.Prelude.{◌≡◌, ◌<◌, ◌≤◌, ◌-◌, ◌++◌, ℕ, List, [], Option, None, Some, length, slice_get, take}
use Rattle.tuple_edge.specs.declared.packet.Entry.{Entry}
use Rattle.tuple_edge.specs.Input.{Input}
use Rattle.plan_reader.specs.Nodes.{parts_of, sources_of}
use Rattle.plan_reader.specs.PlanView.{PlanView}
use Rattle.plan_reader.specs.declared.stage.Stage.{Stage}
use Rattle.pair_machine.specs.Contents.{move_list}
use Rattle.pair_machine.specs.Counts.{entries_after, flow_of, items_on, made_on}
use Rattle.pair_machine.specs.Machine.{replica_in}
use Rattle.pair_machine.specs.Numbers.{GatheringNumbers, Gone, Move, MoveNumbers, Node, Partition, Replica, RunningNumbers, out_edge}
use Rattle.pair_machine.specs.Numbers as numbers
use Rattle.node_edges.specs.InEdges.{ConsumerStands}
use Rattle.node_edges.specs.OutEdges.{ProducerStands}
use Rattle.state_mover.specs.MoverView.{MoverView}
use Rattle.catch_up.specs.Fold.{AllRising}
use Rattle.catch_up.specs.NewcomerView.{NewcomerView}
use Rattle.replica_node.specs.CaughtUp.{HoldsNumbers}
use Rattle.replica_node.specs.ReplicaView.{ReplicaView, partition_of}
use Rattle.replica_node.specs.declared.phase.Phase.{Phase}
use Rattle.replica_node.specs.declared.phase.Phase.TheVariants as phase
use Rattle.replica_node.specs.declared.phase.Running.{Running}
use Rattle.replica_node.specs.declared.role.Role.{Role}

-- it is a replica of a partition of the plan
pub record IsOfPlan (plan : PlanView) (role : Role) : Type 0 where
  pub first : 1 ≤ role.stage
  pub last : role.stage ≤ length plan.stages
  pub part : role.part < parts_of plan role.stage
  pub sources : role.sources ≡ sources_of plan role.stage
  pub own : Stage
  pub own_is : slice_get plan.stages (role.stage - 1) ≡ Some own
  pub op : own.op ≡ role.op
  pub next : slice_get plan.stages role.stage ≡ role.next

module _ (plan : PlanView) (inputs : List Input) (p : Partition) where
  -- A mover stands for a move: it gives the list of the move's numbers, and gave as many chunks as the numbers say.
  pub record MoverStands (m : MoverView) (old : Option (List Entry)) (x : Move) : Type 0 where
    pub target : m.target ≡ x.target
    pub sent : m.sent ≡ x.sent
    pub kept : old ≡ Some (entries_after plan inputs p x.numbers.count)
    pub list : m.fixed ++ entries_after plan inputs p x.numbers.count ≡ move_list plan inputs p x.numbers

  -- a replica's move stands for that of its numbers, and where it makes none these have none
  abbrev pub MoveStands : Option MoverView → Option (List Entry) → Option Move → Type 0
  MoveStands None old None = Unit {0}
  MoveStands (Some m) old (Some x) = MoverStands m old x
  MoveStands m old x = ⊥

  -- one that runs
  pub record RunningStands (r : Running) (x : RunningNumbers) : Type 0 where
    pub inc : r.inc ≡ x.inc
    pub consumer : ConsumerStands plan inputs p x.consumer r.consumer
    pub producer : ProducerStands (flow_of plan inputs) (items_on plan inputs) p (λ t. made_on plan inputs (out_edge p t) x.consumer.count) x.producer r.producer
    pub entries : r.state.entries ≡ entries_after plan inputs p x.consumer.count
    pub served : r.served ≡ x.served
    pub move : MoveStands r.mover r.state.old x.move

  -- the entries that a newcomer took are the first of its move's list; before it took one it knows no move
  abbrev pub TakenStands : List Entry → ℕ → Option MoveNumbers → Type 0
  TakenStands taken count None = taken ≡ []
  TakenStands taken count (Some m) = taken ≡ take count (move_list plan inputs p m)

  -- one that gathers
  pub record GatheringStands (g : NewcomerView) (x : GatheringNumbers) : Type 0 where
    pub inc : g.inc ≡ x.inc
    pub count : length g.taken ≡ x.taken
    pub taken : TakenStands g.taken x.taken x.moved
    pub held : HoldsNumbers plan inputs p g.held x.held
    pub rising : AllRising g.held (length g.held)

  -- a replica in its mode stands for numbers of the same mode
  abbrev pub PhaseStands : Phase → Replica → Type 0
  PhaseStands (phase.Running r) (numbers.Running x) = RunningStands r x
  PhaseStands (phase.Gathering g) (numbers.Gathering x) = GatheringStands g x
  PhaseStands (phase.Gone inc) (Gone own) = inc ≡ own
  PhaseStands p x = ⊥

-- a replica of the plan stands for a node's numbers
pub record StandsFor (plan : PlanView) (inputs : List Input) (v : ReplicaView) (n : Node) : Type 0 where
  pub of_plan : IsOfPlan plan v.role
  pub phase_stands : PhaseStands plan inputs (partition_of v.role) v.phase (replica_in n)
