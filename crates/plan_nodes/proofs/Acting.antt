-- What comes of a task, from what the calls of the four kinds of nodes say.
use Rattle.std.proofs.Common.{◌≡◌, ◌∙◌, ◌≤◌, ◌+◌, ℕ, Bool, List, [], ◌++◌, None, Result, Ok, Err, length, drop, refl, sym, ap, subst, arith, append-nil}
use Rattle.std.specs.Prelude.{◌↔◌, IfOk, OnErr}
use Rattle.std.proofs.lemmas.List.{drop_at, length-append, take-append-drop}
use mathlib.Core.List.{IsPrefix}
use Rattle.tuple_edge.specs.Input.{Input}
use Rattle.tuple_edge.specs.declared.event.Worked.{Worked}
use Rattle.tuple_edge.specs.declared.event.Worked.TheVariants.{Did, Idle}
use Rattle.tuple_edge.specs.declared.memory.OutOfMemory.{OutOfMemory}
use Rattle.tuple_edge.specs.declared.node.NodeId.{NodeId}
use Rattle.tuple_edge.specs.declared.node.NodeId.TheVariants as node
use Rattle.tuple_edge.specs.declared.node.Which.TheVariants.{A, B}
use Rattle.tuple_edge.specs.declared.packet.Body.{Body}
use Rattle.tuple_edge.specs.declared.packet.Body.TheVariants as body
use Rattle.tuple_edge.specs.declared.packet.Packet.{Packet}
use Rattle.tuple_edge.specs.declared.row.Row.{Row}
use Rattle.plan_reader.specs.PlanView.{IsPlan, PlanView}
use Rattle.pair_machine.specs.Asked.{Asks}
use Rattle.pair_machine.specs.Contents.{BodyStands}
use Rattle.pair_machine.specs.Counts.{flow_of}
use Rattle.pair_machine.specs.Courses.{IsStep, packets_to}
use Rattle.pair_machine.specs.Machine.{at_node, partner_node}
use Rattle.pair_machine.specs.Numbers.{Node}
use Rattle.pair_machine.specs.Receivers.{GoOverLinks, appended}
use Rattle.ingress_egress.specs.EgressStands as egress
use Rattle.ingress_egress.specs.EgressView.{EgressView, IsFrontOf}
use Rattle.ingress_egress.specs.IngressStands as ingress
use Rattle.ingress_egress.specs.IngressView.{IngressView, contents_in as ingress_contents, taking as ingress_taking}
use Rattle.pair_control.specs.ControllerView.{ControllerView}
use Rattle.pair_control.specs.Packets.{packets_of, taking}
use Rattle.pair_control.specs.StandsFor as control
use Rattle.replica_node.specs.Course.{AreTimely}
use Rattle.replica_node.specs.Course as course
use Rattle.replica_node.specs.ReplicaView.{ReplicaView, node_of}
use Rattle.replica_node.specs.StandsFor as replica
use Rattle.plan_nodes.specs.States.{Admits, HasActedBehind, HasDone, HasTaken, HasWorkedOnce, IsOfPlan, StandsFor, contents_of, gone_of, has_ended, id_of, inputs_in, rows_of}
use Rattle.tuple_edge.specs.Limits.{most_packets}
use Rattle.node_tasks.specs.Tasks.{DoesStep, event_of, packet_of}
use Rattle.node_tasks.specs.declared.task.Task.{Task}
use Rattle.node_tasks.specs.declared.task.Task.TheVariants as task
use Rattle.plan_nodes.specs.declared.state.NodeState.{NodeState}
use Rattle.plan_nodes.specs.declared.state.NodeState.TheVariants as state
use Rattle.plan_nodes.proofs.Room.{ingress_stays}

-- whether all inputs came to it, and which did
abbrev pub came_of : NodeState → Bool × List Input
came_of s = (has_ended s, inputs_in s)

-- where what came is the same, the same may be the inputs
pub admits_by : (old new : NodeState) → came_of new ≡ came_of old → (inputs : List Input) → Admits new inputs ↔ Admits old inputs
admits_by old new same inputs =
    let of : Bool × List Input → Type 0 = λ came. ingress.AreCome came.0 came.1 inputs in
    (subst of same, subst of (sym same))

module _ (old new : NodeState) (t : Task) (packets : List (NodeId × Body)) where
  -- it was done
  pub acted : at_node (event_of (id_of old) t) ≡ id_of old → DoesStep id_of StandsFor t old new packets → length packets ≤ most_packets → ((plan : PlanView) → IsOfPlan plan old → GoOverLinks plan (id_of old) packets) →
      id_of new ≡ id_of old → ((plan : PlanView) → IsOfPlan plan old → IsOfPlan plan new) → IsPrefix (rows_of old) (rows_of new) → gone_of new ≡ gone_of old → came_of new ≡ came_of old → HasDone old new t (Ok Did) packets
  acted here step few linked id of_plan rows gone came = record {
    acted = record {
      here = λ e. here;
      step = λ e. step;
      few = λ e. few;
      linked = λ e. linked;
      idle = λ e. absurd (let z : ◌≡◌ {A = Result Worked OutOfMemory} (Ok Did) (Ok Idle) = e in cc);
      unsent = tt;
      unchanged = tt;
      id = id;
      of_plan = of_plan;
      rows = rows;
      gone = gone;
      inputs = admits_by old new came;
    };
    contents = tt;
    inputs = λ i. (came i).1;
    ended = λ i. (came i).0;
  }

  -- there was nothing to do
  pub idled : new ≡ old → packets ≡ [] → HasDone old new t (Ok Idle) packets
  idled same none = record {
    acted = record {
      here = λ e. absurd (let z : ◌≡◌ {A = Result Worked OutOfMemory} (Ok Idle) (Ok Did) = e in cc);
      step = λ e. absurd (let z : ◌≡◌ {A = Result Worked OutOfMemory} (Ok Idle) (Ok Did) = e in cc);
      few = λ e. absurd (let z : ◌≡◌ {A = Result Worked OutOfMemory} (Ok Idle) (Ok Did) = e in cc);
      linked = λ e. absurd (let z : ◌≡◌ {A = Result Worked OutOfMemory} (Ok Idle) (Ok Did) = e in cc);
      idle = λ e. (same, none);
      unsent = tt;
      unchanged = tt;
      id = ap id_of same;
      of_plan = λ plan h. subst (IsOfPlan plan) (sym same) h;
      rows = subst (λ s. IsPrefix (rows_of old) (rows_of s)) (sym same) ([], append-nil (rows_of old));
      gone = ap gone_of same;
      inputs = admits_by old new (ap came_of same);
    };
    contents = tt;
    inputs = ap inputs_in same;
    ended = ap has_ended same;
  }

  -- there was no memory
  pub failed : (e : OutOfMemory) → packets ≡ [] → ((plan : PlanView) (inputs : List Input) (x : Node) → StandsFor plan inputs old x → StandsFor plan inputs new x) → contents_of new ≡ contents_of old →
      id_of new ≡ id_of old → ((plan : PlanView) → IsOfPlan plan old → IsOfPlan plan new) → IsPrefix (rows_of old) (rows_of new) → gone_of new ≡ gone_of old → came_of new ≡ came_of old → HasDone old new t (Err e) packets
  failed x none stays contents id of_plan rows gone came = record {
    acted = record {
      here = λ e. absurd (let z : ◌≡◌ {A = Result Worked OutOfMemory} (Err x) (Ok Did) = e in cc);
      step = λ e. absurd (let z : ◌≡◌ {A = Result Worked OutOfMemory} (Err x) (Ok Did) = e in cc);
      few = λ e. absurd (let z : ◌≡◌ {A = Result Worked OutOfMemory} (Err x) (Ok Did) = e in cc);
      linked = λ e. absurd (let z : ◌≡◌ {A = Result Worked OutOfMemory} (Err x) (Ok Did) = e in cc);
      idle = λ e. absurd (let z : ◌≡◌ {A = Result Worked OutOfMemory} (Err x) (Ok Idle) = e in cc);
      unsent = none;
      unchanged = stays;
      id = id;
      of_plan = of_plan;
      rows = rows;
      gone = gone;
      inputs = admits_by old new came;
    };
    contents = contents;
    inputs = λ i. (came i).1;
    ended = λ i. (came i).0;
  }

-- there was no memory, and nothing changed
pub failed_same : (old new : NodeState) (t : Task) (packets : List (NodeId × Body)) (e : OutOfMemory) → new ≡ old → packets ≡ [] → HasDone old new t (Err e) packets
failed_same old new t packets e same none =
    failed old new t packets e none (λ plan inputs x h. subst (λ s. StandsFor plan inputs s x) (sym same) h) (ap contents_of same) (ap id_of same) (λ plan h. subst (IsOfPlan plan) (sym same) h)
    (subst (λ s. IsPrefix (rows_of old) (rows_of s)) (sym same) ([], append-nil (rows_of old))) (ap gone_of same) (ap came_of same)

-- ---- packets behind others

pub sent_appended : (before after sent : List (NodeId × Body)) → after ≡ before ++ sent → appended before after ≡ sent
sent_appended before after sent more = ap (drop (length before)) more ∙ drop_at before sent (length before) refl

pub all_appended : (before after sent : List (NodeId × Body)) → after ≡ before ++ sent → after ≡ before ++ appended before after
all_appended before after sent more = more ∙ ap (λ l. before ++ l) (sym (sent_appended before after sent more))

pub count_appended : (before after : List (NodeId × Body)) → after ≡ before ++ appended before after → length after ≡ length before + length (appended before after)
count_appended before after all = ap length all ∙ length-append before (appended before after)

none_more : (before after : List (NodeId × Body)) → after ≡ before → after ≡ before ++ []
none_more before after same = same ∙ sym (append-nil before)

pub none_appended : (before after : List (NodeId × Body)) → after ≡ before → appended before after ≡ []
none_appended before after same = sent_appended before after [] (none_more before after same)

pub all_of_none : (before after : List (NodeId × Body)) → after ≡ before → after ≡ before ++ appended before after
all_of_none before after same = all_appended before after [] (none_more before after same)

-- what sent nothing, behind whatever lies there
pub quietly : (old new : NodeState) (t : Task) (result : Result Worked OutOfMemory) (before : List (NodeId × Body)) → HasDone old new t result [] → HasActedBehind old new t result before before
quietly old new t result before act = record { done = subst (HasDone old new t result) (sym (none_appended before before refl)) act; packets = all_of_none before before refl }

-- nothing was asked, or nothing was to be done
pub nothing_done : (s : NodeState) (t : Task) (before : List (NodeId × Body)) → HasActedBehind s s t (Ok Idle) before before
nothing_done s t before = quietly s s t (Ok Idle) before (idled s s t [] refl refl)

-- where nothing lies there, what lies there then is what was sent
pub alone : (old new : NodeState) (t : Task) (result : Result Worked OutOfMemory) (before after : List (NodeId × Body)) → before ≡ [] → HasActedBehind old new t result before after → HasDone old new t result after
alone old new t result before after none h = subst (HasDone old new t result) (ap (λ l. appended l after) none) h.done

-- ---- a packet

pub taken_alone : (old new : NodeState) (from : NodeId) (packet : Packet) (result : Result Worked OutOfMemory) (before after : List (NodeId × Body)) → before ≡ [] → HasTaken old new from packet result before after →
    (index : ℕ) → HasDone old new (task.Take from index packet) result after
taken_alone old new from packet result before after none h index = subst (HasDone old new (task.Take from index packet) result) (ap (λ l. appended l after) none) (h.done index)

-- what sent nothing, behind whatever lies there
pub taken_quietly : (old new : NodeState) (from : NodeId) (packet : Packet) (result : Result Worked OutOfMemory) (before : List (NodeId × Body)) → HasTaken old new from packet result [] [] → HasTaken old new from packet result before before
taken_quietly old new from packet result before take = record {
  done = λ index. subst (HasDone old new (task.Take from index packet) result) (sym (none_appended before before refl)) (take.done index);
  packets = all_of_none before before refl;
}

-- it was left
pub not_taken : (s : NodeState) (from : NodeId) (packet : Packet) (before : List (NodeId × Body)) → HasTaken s s from packet (Ok Idle) before before
not_taken s from packet before = record { done = λ index. idled s s (task.Take from index packet) (appended before before) refl (none_appended before before refl); packets = all_of_none before before refl }

-- there was no memory for it
pub take_failed : (old new : NodeState) (from : NodeId) (packet : Packet) (e : OutOfMemory) (before after : List (NodeId × Body)) → new ≡ old → after ≡ before → HasTaken old new from packet (Err e) before after
take_failed old new from packet e before after same quiet = record {
  done = λ index. failed_same old new (task.Take from index packet) (appended before after) e same (none_appended before after quiet);
  packets = all_of_none before after quiet;
}

-- ---- the tasks of taking a packet and of working

pub acted_by_take : (old new : NodeState) (from : NodeId) (index : ℕ) (packet : Packet) (t : Task) (result : Result Worked OutOfMemory) (before after : List (NodeId × Body)) → t ≡ task.Take from index packet →
    HasTaken old new from packet result before after → HasActedBehind old new t result before after
acted_by_take old new from index packet t result before after is take =
    subst (λ x. HasActedBehind old new x result before after) (sym is) (record { done = take.done index; packets = take.packets })

pub acted_by_work : (old new : NodeState) (t : Task) (result : Result Worked OutOfMemory) (before after : List (NodeId × Body)) → t ≡ task.Work → HasWorkedOnce old new result before after → HasActedBehind old new t result before after
acted_by_work old new t result before after is work = subst (λ x. HasActedBehind old new x result before after) (sym is) (record { done = work.done; packets = work.packets })

-- ---- helpers

pub all_rows : (xs : List Row) → IsPrefix xs xs
all_rows xs = ([], append-nil xs)

pub same_rows : (xs ys : List Row) → ys ≡ xs → IsPrefix xs ys
same_rows xs ys e = subst (IsPrefix xs) (sym e) (all_rows xs)

pub front_rows : (xs ys : List Row) → IsFrontOf xs ys → IsPrefix xs ys
front_rows xs ys e = (drop (length xs) ys, ap (λ l. l ++ drop (length xs) ys) (sym e) ∙ take-append-drop (length xs) ys)

back_here : (n : NodeId) → partner_node (partner_node n) ≡ n
back_here node.Ingress = refl
back_here (node.Replica s p A) = refl
back_here (node.Replica s p B) = refl
back_here (node.Control s p) = refl
back_here node.Egress = refl

-- ---- a controller

pub control_takes : (old new : ControllerView) (from : NodeId) (packet : Packet) (before after : List (NodeId × Body)) → after ≡ before ++ packets_of (taking old from packet.body).1 →
    ((plan : PlanView) (inputs : List Input) → control.IsTaken plan inputs old new from packet.body) → length after ≤ length before + 19 →
    ((plan : PlanView) → control.IsOfPlan plan old → GoOverLinks plan (control.node_of old) (appended before after)) → control.node_of new ≡ control.node_of old →
    ((plan : PlanView) → control.IsOfPlan plan old → control.IsOfPlan plan new) → HasTaken (state.Control old) (state.Control new) from packet (Ok Did) before after
control_takes old new from packet before after more course few linked id of_plan =
    let sent = packets_of (taking old from packet.body).1 in
    let all = all_appended before after sent more in
    let count = count_appended before after all in
    record {
      done = λ index. acted (state.Control old) (state.Control new) (task.Take from index packet) (appended before after) refl
          (subst (DoesStep id_of StandsFor (task.Take from index packet) (state.Control old) (state.Control new)) (sym (sent_appended before after sent more)) (λ plan inputs hp ht clock. course plan inputs packet.at index clock))
          (omega (arith, few, count)) linked id of_plan (all_rows []) refl refl;
      packets = all;
    }

-- ---- a replica

abbrev Steps : ReplicaView → ReplicaView → Task → List (NodeId × Body) → Type 0
Steps old new k sent = (plan : PlanView) (inputs : List Input) → IsPlan plan → AreTimely inputs → (clock : ℕ) →
    IsStep (flow_of plan inputs) (BodyStands plan inputs) (Asks (flow_of plan inputs)) (node_of old.role) (replica.StandsFor plan inputs old) (replica.StandsFor plan inputs new) (event_of (node_of old.role) k) (packet_of k) (λ to. packets_to clock to sent)

pub replica_steps : (old new : ReplicaView) (k : Task) (after sent : List (NodeId × Body)) → after ≡ sent → at_node (event_of (node_of old.role) k) ≡ node_of old.role → Steps old new k sent → length after ≤ most_packets →
    ((plan : PlanView) → replica.IsOfPlan plan old.role → GoOverLinks plan (node_of old.role) sent) → new.role ≡ old.role → HasDone (state.Replica old) (state.Replica new) k (Ok Did) after
replica_steps old new k after sent same here step few linked role =
    acted (state.Replica old) (state.Replica new) k after here (subst (DoesStep id_of StandsFor k (state.Replica old) (state.Replica new)) (sym same) step) few
    (λ plan h. subst (GoOverLinks plan (node_of old.role)) (sym same) (linked plan h)) (ap node_of role) (λ plan h. subst (replica.IsOfPlan plan) (sym role) h) (all_rows []) refl refl

pub replica_takes : (old new : ReplicaView) (from : NodeId) (packet : Packet) (before after : List (NodeId × Body)) → after ≡ before ++ appended before after →
    ((plan : PlanView) (inputs : List Input) → IsPlan plan → AreTimely inputs → course.IsTaken plan inputs old new from packet.body (appended before after)) → length after ≤ length before + 2 →
    ((plan : PlanView) → replica.IsOfPlan plan old.role → GoOverLinks plan (node_of old.role) (appended before after)) → new.role ≡ old.role → HasTaken (state.Replica old) (state.Replica new) from packet (Ok Did) before after
replica_takes old new from packet before after all taken few linked role =
    let count = count_appended before after all in
    record {
      done = λ index. replica_steps old new (task.Take from index packet) (appended before after) (appended before after) refl refl
          (λ plan inputs hp ht clock. taken plan inputs hp ht clock packet.at index) (omega (arith, few, count)) linked role;
      packets = all;
    }

pub replica_does : (old new : ReplicaView) (k : Task) (before after sent : List (NodeId × Body)) → after ≡ before ++ sent → at_node (event_of (node_of old.role) k) ≡ node_of old.role → packet_of k ≡ None →
    ((plan : PlanView) (inputs : List Input) → course.IsDone plan inputs old new sent (event_of (node_of old.role) k)) → length sent ≤ most_packets →
    ((plan : PlanView) → replica.IsOfPlan plan old.role → GoOverLinks plan (node_of old.role) sent) → new.role ≡ old.role → HasActedBehind (state.Replica old) (state.Replica new) k (Ok Did) before after
replica_does old new k before after sent more here nothing done few linked role =
    let is = sent_appended before after sent more in
    let short : length (appended before after) ≡ length sent = ap length is in
    record {
      done = replica_steps old new k (appended before after) sent is here
          (λ plan inputs hp ht clock. subst (λ o. IsStep (flow_of plan inputs) (BodyStands plan inputs) (Asks (flow_of plan inputs)) (node_of old.role) (replica.StandsFor plan inputs old) (replica.StandsFor plan inputs new) (event_of (node_of old.role) k) o (λ to. packets_to clock to sent)) (sym nothing) (done plan inputs clock))
          (omega (arith, few, short)) linked role;
      packets = all_appended before after sent more;
    }

pub back_at : (r : ReplicaView) → at_node (event_of (node_of r.role) task.AskBack) ≡ node_of r.role
back_at r = back_here (node_of r.role)

-- ---- egress

pub egress_takes : (old new : EgressView) (from : NodeId) (packet : Packet) → ((plan : PlanView) (inputs : List Input) → IsPlan plan → egress.IsTaken plan inputs old new from packet.body) →
    ((plan : PlanView) → egress.IsOfPlan plan old → egress.IsOfPlan plan new) → new.emitted ≡ old.emitted → new.gone ≡ old.gone → HasTaken (state.Egress old) (state.Egress new) from packet (Ok Did) [] []
egress_takes old new from packet taken of_plan emitted gone = record {
  done = λ index. acted (state.Egress old) (state.Egress new) (task.Take from index packet) [] refl (λ plan inputs hp ht clock. taken plan inputs hp packet.at index) (omega arith) (λ plan h. tt) refl of_plan
      (same_rows old.emitted new.emitted emitted) gone refl;
  packets = refl;
}

-- ---- ingress

abbrev pub ingress_came : IngressView → Bool × List Input
ingress_came i = (i.ended, i.inputs)

inputs_stay : (i : IngressView) (from : NodeId) (b : Body) → ingress_came (ingress_taking i from b) ≡ ingress_came i
inputs_stay i from (body.Tuple edge number item) = refl
inputs_stay i from (body.Ack edge upto) = refl
inputs_stay i from (body.Report inc edge upto) = refl
inputs_stay i from (body.Lead inc term) = refl
inputs_stay i from (body.Serve inc target) = refl
inputs_stay i from (body.Begin inc) = refl
inputs_stay i from (body.Chunk inc number entry) = refl
inputs_stay i from (body.ChunkEnd inc count) = refl
inputs_stay i from (body.Caught inc) = refl
inputs_stay i from (body.Want edge number) = refl
inputs_stay i from (body.Down inc) = refl
inputs_stay i from (body.Stop inc) = refl
inputs_stay i from (body.AskStop inc) = refl
inputs_stay i from body.AskBack = refl

pub ingress_takes : (old new : IngressView) (from : NodeId) (packet : Packet) → new ≡ ingress_taking old from packet.body → ((plan : PlanView) (inputs : List Input) → IsPlan plan → ingress.IsTaken plan inputs old new from packet.body) →
    ((plan : PlanView) → ingress.IsOfPlan plan old → ingress.IsOfPlan plan new) → HasTaken (state.Ingress old) (state.Ingress new) from packet (Ok Did) [] []
ingress_takes old new from packet is taken of_plan = record {
  done = λ index. acted (state.Ingress old) (state.Ingress new) (task.Take from index packet) [] refl (λ plan inputs hp ht clock. taken plan inputs hp packet.at index) (omega arith) (λ plan h. tt) refl of_plan (all_rows []) refl
      (ap ingress_came is ∙ inputs_stay old from packet.body);
  packets = refl;
}

-- whatever came of a make, it sent nothing
pub ingress_made_so : (old new : IngressView) (result : Result Worked OutOfMemory) → IfOk result (ingress.IsMade old new) → OnErr result (ingress_contents new ≡ ingress_contents old) →
    ((plan : PlanView) → ingress.IsOfPlan plan old → ingress.IsOfPlan plan new) →
    IfOk result (λ m. (plan : PlanView) (inputs : List Input) → IsPlan plan → ingress.IsMadeIn plan inputs old new m) → HasDone (state.Ingress old) (state.Ingress new) task.Make result []
ingress_made_so old new (Ok Did) made err of_plan course =
    acted (state.Ingress old) (state.Ingress new) task.Make [] refl (λ plan inputs hp ht clock. course plan inputs hp clock) (omega arith) (λ plan h. tt) refl of_plan (all_rows []) refl (λ k. (made.1.ended k, made.1.inputs k))
ingress_made_so old new (Ok Idle) made err of_plan course = idled (state.Ingress old) (state.Ingress new) task.Make [] (ap state.Ingress made.0) refl
ingress_made_so old new (Err e) made err of_plan course =
    failed (state.Ingress old) (state.Ingress new) task.Make [] e refl (λ plan inputs x h. ingress_stays plan inputs old new x err h) (ap state.Ingress err) refl of_plan (all_rows []) refl (ap ingress_came err)

pub ingress_made : (old new : IngressView) (t : Task) (result : Result Worked OutOfMemory) (before : List (NodeId × Body)) → t ≡ task.Make →
    IfOk result (ingress.IsMade old new) → OnErr result (ingress_contents new ≡ ingress_contents old) → ((plan : PlanView) → ingress.IsOfPlan plan old → ingress.IsOfPlan plan new) →
    IfOk result (λ m. (plan : PlanView) (inputs : List Input) → IsPlan plan → ingress.IsMadeIn plan inputs old new m) → HasActedBehind (state.Ingress old) (state.Ingress new) t result before before
ingress_made old new t result before is made err of_plan course =
    subst (λ x. HasActedBehind (state.Ingress old) (state.Ingress new) x result before before) (sym is)
    (quietly (state.Ingress old) (state.Ingress new) task.Make result before (ingress_made_so old new result made err of_plan course))
