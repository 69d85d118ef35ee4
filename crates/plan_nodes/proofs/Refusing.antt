-- Where a node did nothing, the machine refuses what was asked.
use Rattle.std.proofs.Common.{◌≡◌, ◌≢◌, ◌≤◌, ℕ, List, Option, None, Some, Result, Ok, Err, refl, sym, subst, true}
use Rattle.std.specs.Prelude.{IfOk}
use Rattle.tuple_edge.specs.Input.{Input}
use Rattle.tuple_edge.specs.declared.event.Worked.{Worked}
use Rattle.tuple_edge.specs.declared.event.Worked.TheVariants.{Did, Idle}
use Rattle.tuple_edge.specs.declared.memory.OutOfMemory.{OutOfMemory}
use Rattle.tuple_edge.specs.declared.node.NodeId.{NodeId}
use Rattle.tuple_edge.specs.declared.node.Which.{Which}
use Rattle.tuple_edge.specs.declared.packet.Body.{Body}
use Rattle.tuple_edge.specs.declared.packet.Packet.{Packet}
use Rattle.plan_reader.specs.PlanView.{IsPlan, PlanView}
use Rattle.pair_machine.specs.Counts.{flow_of}
use Rattle.pair_machine.specs.Flow.{Flow}
use Rattle.pair_machine.specs.Machine.{as_replica, replica_in}
use Rattle.pair_machine.specs.Messages.{AsksBack, AsksStop, Dies, Makes, NoMoreRows, NotRunning, NothingDue, Works}
use Rattle.pair_machine.specs.Numbers.{Gathering, Gone, Partition, Replica, Running}
use Rattle.pair_machine.specs.Replicas.{replica_does}
use Rattle.ingress_egress.specs.EgressStands as egress
use Rattle.ingress_egress.specs.EgressView.{EgressView}
use Rattle.ingress_egress.specs.IngressStands as ingress
use Rattle.ingress_egress.specs.IngressView.{IngressView}
use Rattle.node_tasks.specs.Tasks.{packet_of}
use Rattle.node_tasks.specs.declared.task.Task.{Task}
use Rattle.node_tasks.specs.declared.task.Task.TheVariants as task
use Rattle.pair_control.specs.ControllerView.{ControllerView}
use Rattle.replica_node.specs.Course as course
use Rattle.replica_node.specs.Phases.{mode_in}
use Rattle.replica_node.specs.ReplicaView.{ReplicaView, partition_of}
use Rattle.replica_node.specs.Rules.{IsSure}
use Rattle.replica_node.specs.StandsFor.{PhaseStands}
use Rattle.replica_node.specs.declared.phase.Mode.{Mode}
use Rattle.replica_node.specs.declared.phase.Mode.TheVariants as mode
use Rattle.replica_node.specs.declared.phase.Phase.{Phase}
use Rattle.replica_node.specs.declared.phase.Phase.TheVariants as phase
use Rattle.plan_nodes.specs.States.{IsIdle, Refuses}
use Rattle.plan_nodes.specs.declared.state.NodeState.{NodeState}
use Rattle.plan_nodes.specs.declared.state.NodeState.TheVariants as state

-- ---- the task is the one that was asked

pub idle_as : (rise : ℕ) (s : NodeState) (t k : Task) → t ≡ k → IsIdle rise s k → IsIdle rise s t
idle_as rise s t k is h = subst (IsIdle rise s) (sym is) h

-- ---- nothing was due

never_idle : {X : Type 0} → ◌≡◌ {A = Result Worked OutOfMemory} (Ok Did) (Ok Idle) → X
never_idle e = absurd (let z : ◌≡◌ {A = Result Worked OutOfMemory} (Ok Did) (Ok Idle) = e in cc)

never_failed : {X : Type 0} (e : OutOfMemory) → ◌≡◌ {A = Result Worked OutOfMemory} (Err e) (Ok Idle) → X
never_failed x e = absurd (let z : ◌≡◌ {A = Result Worked OutOfMemory} (Err x) (Ok Idle) = e in cc)

pub ingress_none_due : (old new : IngressView) (result : Result Worked OutOfMemory) (sent : List (NodeId × Body)) →
    IfOk result (λ w. (plan : PlanView) (inputs : List Input) → IsPlan plan → ingress.IsWorked plan inputs old new sent w) → result ≡ Ok Idle → Refuses (state.Ingress old) Works NothingDue
ingress_none_due old new (Ok Did) sent worked e = never_idle e
ingress_none_due old new (Ok Idle) sent worked e = λ plan inputs p x s. worked plan inputs p x s
ingress_none_due old new (Err z) sent worked e = never_failed z e

pub ingress_none_left : (old new : IngressView) (result : Result Worked OutOfMemory) →
    IfOk result (λ m. (plan : PlanView) (inputs : List Input) → IsPlan plan → ingress.IsMadeIn plan inputs old new m) → result ≡ Ok Idle → old.ended ≡ true → Refuses (state.Ingress old) Makes NoMoreRows
ingress_none_left old new (Ok Did) made e = never_idle e
ingress_none_left old new (Ok Idle) made e = λ ended plan inputs p x s. made plan inputs p ended x s
ingress_none_left old new (Err z) made e = never_failed z e

pub egress_none_due : (old new : EgressView) (result : Result Worked OutOfMemory) (sent : List (NodeId × Body)) →
    IfOk result (λ w. (plan : PlanView) (inputs : List Input) → IsPlan plan → egress.IsWorked plan inputs old new sent w) → result ≡ Ok Idle → Refuses (state.Egress old) Works NothingDue
egress_none_due old new (Ok Did) sent worked e = never_idle e
egress_none_due old new (Ok Idle) sent worked e = λ plan inputs p x s. worked plan inputs p x s
egress_none_due old new (Err z) sent worked e = never_failed z e

pub replica_none_due : (old new : ReplicaView) (result : Result Worked OutOfMemory) (rise : ℕ) (sent : List (NodeId × Body)) →
    IfOk result (λ w. IsSure rise w → (plan : PlanView) (inputs : List Input) → IsPlan plan → course.IsWorked plan inputs old new sent w) → result ≡ Ok Idle → rise ≤ 1 → Refuses (state.Replica old) Works NothingDue
replica_none_due old new (Ok Did) rise sent worked e low = never_idle e
replica_none_due old new (Ok Idle) rise sent worked e low = λ plan inputs p x s. worked low plan inputs p x s
replica_none_due old new (Err z) rise sent worked e low = never_failed z e

-- ---- a controller, which has no work of its own

pub control_refuses : (c : ControllerView) (rise : ℕ) (t : Task) → packet_of t ≡ None → IsIdle rise (state.Control c) t
control_refuses c rise (task.Take from index packet) e = absurd (let z : ◌≡◌ {A = Option Packet} (Some packet) None = e in cc)
control_refuses c rise task.Work e = λ low plan inputs p x s. refl
control_refuses c rise task.Make e = λ all plan inputs p x s. refl
control_refuses c rise task.Kill e = λ plan inputs p x s. refl
control_refuses c rise task.AskStop e = λ plan inputs p x s. refl
control_refuses c rise task.AskBack e = λ plan inputs p x s. refl

-- ---- a replica that doesn't run

module _ (plan : PlanView) (inputs : List Input) (f : Flow) (p : Partition) (w : Which) where
  gone : (q : Phase) (r : Replica) → mode_in q ≡ mode.Gone → PhaseStands plan inputs p q r → as_replica (replica_does f p w Dies r) ≡ Err NotRunning
  gone (phase.Running o) r is h = absurd (let z : ◌≡◌ {A = Mode} mode.Running mode.Gone = is in cc)
  gone (phase.Gathering o) r is h = absurd (let z : ◌≡◌ {A = Mode} mode.Gathering mode.Gone = is in cc)
  gone (phase.Gone i) (Running x) is h = absurd h
  gone (phase.Gone i) (Gathering x) is h = absurd h
  gone (phase.Gone i) (Gone j) is h = refl

  no_stop : (q : Phase) (r : Replica) → mode_in q ≢ mode.Running → PhaseStands plan inputs p q r → as_replica (replica_does f p w AsksStop r) ≡ Err NotRunning
  no_stop (phase.Running o) r is h = absurd (is refl)
  no_stop (phase.Gathering o) (Running x) is h = absurd h
  no_stop (phase.Gathering o) (Gathering x) is h = refl
  no_stop (phase.Gathering o) (Gone j) is h = absurd h
  no_stop (phase.Gone i) (Running x) is h = absurd h
  no_stop (phase.Gone i) (Gathering x) is h = absurd h
  no_stop (phase.Gone i) (Gone j) is h = refl

  no_back : (q : Phase) (r : Replica) → mode_in q ≢ mode.Running → PhaseStands plan inputs p q r → as_replica (replica_does f p w AsksBack r) ≡ Err NotRunning
  no_back (phase.Running o) r is h = absurd (is refl)
  no_back (phase.Gathering o) (Running x) is h = absurd h
  no_back (phase.Gathering o) (Gathering x) is h = refl
  no_back (phase.Gathering o) (Gone j) is h = absurd h
  no_back (phase.Gone i) (Running x) is h = absurd h
  no_back (phase.Gone i) (Gathering x) is h = absurd h
  no_back (phase.Gone i) (Gone j) is h = refl

pub gone_refuses : (v : ReplicaView) → mode_in v.phase ≡ mode.Gone → Refuses (state.Replica v) Dies NotRunning
gone_refuses v is = λ plan inputs p x s. gone plan inputs (flow_of plan inputs) (partition_of v.role) v.role.which v.phase (replica_in x) is s.phase_stands

pub idle_refuses_stop : (v : ReplicaView) → mode_in v.phase ≢ mode.Running → Refuses (state.Replica v) AsksStop NotRunning
idle_refuses_stop v is = λ plan inputs p x s. no_stop plan inputs (flow_of plan inputs) (partition_of v.role) v.role.which v.phase (replica_in x) is s.phase_stands

pub idle_refuses_back : (v : ReplicaView) → mode_in v.phase ≢ mode.Running → Refuses (state.Replica v) AsksBack NotRunning
idle_refuses_back v is = λ plan inputs p x s. no_back plan inputs (flow_of plan inputs) (partition_of v.role) v.role.which v.phase (replica_in x) is s.phase_stands
