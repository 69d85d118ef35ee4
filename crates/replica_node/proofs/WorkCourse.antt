-- A replica's piece of work is a step of its course, and where it had none the machine refuses one.
use Rattle.std.proofs.Common.{◌≡◌, ◌≤◌, ◌+◌, ◌++◌, ℕ, [], arith, length, List, Err, Ok, Result, refl, sym, ap, ◌∙◌, subst}
use Rattle.std.specs.Prelude.{IfOk, OnErr, drop}
use Rattle.std.proofs.lemmas.List.{append-nil, drop_at, length-append}
use Rattle.tuple_edge.specs.declared.event.Worked.{Worked}
use Rattle.tuple_edge.specs.declared.event.Worked.TheVariants as worked
use Rattle.tuple_edge.specs.declared.memory.OutOfMemory.{OutOfMemory}
use Rattle.tuple_edge.specs.declared.node.NodeId.{NodeId}
use Rattle.tuple_edge.specs.declared.packet.Body.{Body}
use Rattle.tuple_edge.specs.Input.{Input}
use Rattle.tuple_edge.specs.Outbox.{OutboxView}
use Rattle.plan_reader.specs.PlanView.{IsPlan, PlanView}
use Rattle.pair_machine.specs.Contents.{BodyStands}
use Rattle.pair_machine.specs.Counts.{flow_of}
use Rattle.pair_machine.specs.Machine.{as_replica, does, replica_in}
use Rattle.pair_machine.specs.Numbers.{Node, ReplicaNode, RunningNumbers}
use Rattle.pair_machine.specs.Receivers.{GoOverLinks, appended}
use Rattle.pair_machine.proofs.Delivered.{delivered}
use Rattle.replica_node.specs.Course.{IsWorked}
use Rattle.replica_node.specs.IsReplica.{IsReplica, IsRunning}
use Rattle.replica_node.specs.ReplicaView.{ReplicaView, node_of}
use Rattle.replica_node.specs.Rules.{IsSure, IsWorkOf, contents_in}
use Rattle.replica_node.specs.StandsFor.{IsOfPlan, StandsFor}
use Rattle.replica_node.specs.declared.phase.Phase.{Phase}
use Rattle.replica_node.specs.declared.phase.Running.{Running}
use Rattle.replica_node.proofs.WorkLinks.{works_few, works_linked}
use Rattle.replica_node.proofs.WorkSteps.{MergesSo, WorksSo, work_comes}

module _ (plan : PlanView) (inputs : List Input) (old : ReplicaView) (after : Phase) (sent : List (NodeId × Body)) where
  -- whatever numbers it stands for, it works as they do
  worked_so : (did : Worked) → ((x : Node) → StandsFor plan inputs old x → WorksSo plan inputs old.role old.phase (replica_in x) after sent did)
      → IsWorked plan inputs old (record { role = old.role; phase = after }) sent did
  worked_so worked.Idle works = λ n s. ap as_replica (works n s).0
  worked_so worked.Did works = λ clock a act n s asks.
      let so = works n s asks.0 in (
        (ReplicaNode so.0.0, so.0.1),
        (λ j. does (flow_of plan inputs) (node_of old.role) (act j) n) ∙ ap as_replica so.1,
        record { of_plan = s.of_plan; phase_stands = so.2.stands },
        λ to. delivered (BodyStands plan inputs) (node_of old.role) clock to sent so.0.1 so.2.packets,
      )

-- the rule of a merge is another one's
pub work_course : (plan : PlanView) (inputs : List Input) → IsPlan plan → (old new : ReplicaView) (sent : List (NodeId × Body)) (did : Worked)
    → ((x : RunningNumbers) (r : Running) → IsOfPlan plan old.role → IsRunning old.role r → MergesSo plan inputs old.role r x)
    → IsReplica old → IsWorkOf old new sent did → IsWorked plan inputs old new sent did
work_course plan inputs is_plan old new sent did merges sound work =
    subst (λ (v : ReplicaView). IsWorked plan inputs old v sent did) (λ i. record { role = sym work.role i; phase = new.phase })
    (worked_so plan inputs old new.phase sent did (λ n s.
    work_comes plan inputs old.role is_plan s.of_plan (λ r x running. merges x r s.of_plan running) old.phase (replica_in n) sound.1 s.phase_stands new.phase sent did work.works))

-- ---- of a call, which may have wanted memory

none_appended : (before later : List (NodeId × Body)) → later ≡ before → appended before later ≡ []
none_appended before later same = ap (drop (length before)) (same ∙ sym (append-nil before)) ∙ drop_at before [] (length before) refl

pub work_done : (r : Result Worked OutOfMemory) (old new : ReplicaView) (sent : List (NodeId × Body))
    → ((plan : PlanView) (inputs : List Input) → IsPlan plan → IsOfPlan plan old.role → (r : Running) (x : RunningNumbers) → IsRunning old.role r → MergesSo plan inputs old.role r x)
    → IsReplica old → IfOk r (IsWorkOf old new sent) → IfOk r (λ did. (plan : PlanView) (inputs : List Input) → IsPlan plan → IsWorked plan inputs old new sent did)
work_done (Ok did) old new sent merges sound work = λ plan inputs is_plan. work_course plan inputs is_plan old new sent did (λ x r of_plan running. merges plan inputs is_plan of_plan r x running) sound work
work_done (Err e) old new sent merges sound work = tt

pub work_linked : (r : Result Worked OutOfMemory) (old new : ReplicaView) (before later : List (NodeId × Body)) → IsReplica old → IfOk r (IsWorkOf old new (appended before later))
    → OnErr r ((contents_in new ≡ contents_in old) × (later ≡ before)) → (plan : PlanView) → IsOfPlan plan old.role → GoOverLinks plan (node_of old.role) (appended before later)
work_linked (Ok did) old new before later sound work same plan of_plan = works_linked plan old.role of_plan old.phase new.phase (appended before later) did sound.1 work.works
work_linked (Err e) old new before later sound work same plan of_plan = subst (GoOverLinks plan (node_of old.role)) (sym (none_appended before later same.1)) tt

pub work_few : (r : Result Worked OutOfMemory) (old new : ReplicaView) (before later : List (NodeId × Body)) → IfOk r (IsWorkOf old new (appended before later))
    → OnErr r ((contents_in new ≡ contents_in old) × (later ≡ before)) → later ≡ before ++ appended before later → length later ≤ length before + 1
work_few (Ok did) old new before later work same more =
    let one : length (appended before later) ≤ 1 = works_few old.role old.phase new.phase (appended before later) did work.works in
    let many : length later ≡ length before + length (appended before later) = ap length more ∙ length-append before (appended before later) in
    omega (arith, one, many)
work_few (Err e) old new before later work same more = let many : length later ≡ length before = ap length same.1 in omega (arith, many)

-- ---- of a call, which may have waited for a mark to rise

-- one that waits for no rise says what it did
pub waits_for_none : (r : Result Worked OutOfMemory) (P : Worked → Type 0) → IfOk r (λ w. IsSure 1 w → P w) → IfOk r P
waits_for_none (Ok worked.Did) P sure = sure tt
waits_for_none (Ok worked.Idle) P sure = sure (omega arith)
waits_for_none (Err e) P sure = tt

pub waited_worked : (r : Result Worked OutOfMemory) (rise : ℕ) (P : Worked → Type 0) → IfOk r (λ w. IsSure rise w → P w) → IfOk r (λ w. w ≡ worked.Did → P w)
waited_worked (Ok worked.Did) rise P sure = λ did. sure tt
waited_worked (Ok worked.Idle) rise P sure = λ did. let z : ⊥ = cc in absurd z
waited_worked (Err e) rise P sure = tt

pub waited_done : (r : Result Worked OutOfMemory) (rise : ℕ) (old new : ReplicaView) (sent : List (NodeId × Body))
    → ((plan : PlanView) (inputs : List Input) → IsPlan plan → IsOfPlan plan old.role → (r : Running) (x : RunningNumbers) → IsRunning old.role r → MergesSo plan inputs old.role r x)
    → IsReplica old → IfOk r (λ w. IsSure rise w → IsWorkOf old new sent w) → IfOk r (λ w. IsSure rise w → (plan : PlanView) (inputs : List Input) → IsPlan plan → IsWorked plan inputs old new sent w)
waited_done (Ok w) rise old new sent merges sound work = λ sure plan inputs is_plan.
    work_course plan inputs is_plan old new sent w (λ x r of_plan running. merges plan inputs is_plan of_plan r x running) sound (work sure)
waited_done (Err e) rise old new sent merges sound work = tt

-- what waited sent nothing
pub waited_linked : (r : Result Worked OutOfMemory) (old new : ReplicaView) (before after : OutboxView) → IsReplica old → IfOk r (λ w. w ≡ worked.Did → IsWorkOf old new (appended before.packets after.packets) w)
    → IfOk r (λ w. w ≡ worked.Idle → (new ≡ old) × (after ≡ before)) → OnErr r ((contents_in new ≡ contents_in old) × (after.packets ≡ before.packets))
    → (plan : PlanView) → IsOfPlan plan old.role → GoOverLinks plan (node_of old.role) (appended before.packets after.packets)
waited_linked (Ok worked.Did) old new before after sound work idle same plan of_plan =
    works_linked plan old.role of_plan old.phase new.phase (appended before.packets after.packets) worked.Did sound.1 (work refl).works
waited_linked (Ok worked.Idle) old new before after sound work idle same plan of_plan =
    subst (GoOverLinks plan (node_of old.role)) (sym (none_appended before.packets after.packets (ap (λ (o : OutboxView). o.packets) (idle refl).1))) tt
waited_linked (Err e) old new before after sound work idle same plan of_plan = subst (GoOverLinks plan (node_of old.role)) (sym (none_appended before.packets after.packets same.1)) tt

pub waited_few : (r : Result Worked OutOfMemory) (old new : ReplicaView) (before after : OutboxView) → IfOk r (λ w. w ≡ worked.Did → IsWorkOf old new (appended before.packets after.packets) w)
    → IfOk r (λ w. w ≡ worked.Idle → (new ≡ old) × (after ≡ before)) → OnErr r ((contents_in new ≡ contents_in old) × (after.packets ≡ before.packets))
    → after.packets ≡ before.packets ++ appended before.packets after.packets → length after.packets ≤ length before.packets + 1
waited_few (Ok worked.Did) old new before after work idle same more = work_few (Ok worked.Did) old new before.packets after.packets (work refl) same more
waited_few (Ok worked.Idle) old new before after work idle same more = let many : length after.packets ≡ length before.packets = ap (λ (o : OutboxView). length o.packets) (idle refl).1 in omega (arith, many)
waited_few (Err e) old new before after work idle same more = work_few (Err e) old new before.packets after.packets work same more
