-- From what a plan's node says of a task to the machine's act there.
use Rattle.std.proofs.Common.{◌≡◌, ◌≢◌, ◌∙◌, ◌+◌, ℕ, List, [], ◌∷◌, ◌++◌, Some, Ok, Err, Result, OnErr, OnOk, IfErr, IfOk, Bool, true, false, arith, refl, sym, ap, subst, append-nil, if◌then◌else◌}
use Rattle.tuple_edge.specs.Input.{Input}
use Rattle.tuple_edge.specs.declared.event.Worked.{Worked}
use Rattle.tuple_edge.specs.declared.event.Worked.TheVariants.{Did, Idle}
use Rattle.tuple_edge.specs.declared.item.Item.{Item}
use Rattle.tuple_edge.specs.declared.memory.OutOfMemory.{OutOfMemory}
use Rattle.tuple_edge.specs.declared.node.NodeId.{NodeId}
use Rattle.tuple_edge.specs.declared.node.NodeId.TheVariants as node
use Rattle.tuple_edge.specs.declared.packet.Body.{Body}
use Rattle.tuple_edge.specs.declared.packet.Packet.{Packet}
use Rattle.merge_order.specs.Edges.{item_at}
use Rattle.plan_reader.specs.PlanView.{IsPlan, PlanView}
use Rattle.pair_machine.specs.Asked.{Asks}
use Rattle.pair_machine.specs.Boundary.{egress_partition}
use Rattle.pair_machine.specs.Consumers.{pulled}
use Rattle.pair_machine.specs.Contents.{BodyStands}
use Rattle.pair_machine.specs.Counts.{flow_of, items_on}
use Rattle.pair_machine.specs.Courses.{ArePacketsOf, Pairwise, packets_to}
use Rattle.pair_machine.specs.Flow.{Flow}
use Rattle.pair_machine.specs.Links.{link}
use Rattle.pair_machine.specs.Machine.{as_replica, does, egress_in, mark_in, messages_to, replica_in}
use Rattle.pair_machine.specs.Messages.{Act, AsksBack, AsksStop, Dies, Envelope, Makes, Message, NoMoreRows, NotRunning, NothingDue, Pulls, Refusal, Works}
use Rattle.pair_machine.specs.Numbers.{EgressNode, Gathering, Gone, Node, Partition, Replica, ReplicaNode, Running, RunningNumbers, in_edge, is_node}
use Rattle.pair_machine.specs.Receivers.{appended}
use Rattle.pair_machine.specs.Replicas.{replica_pulls}
use Rattle.replica_node.specs.Course.{AreTimely}
use Rattle.replica_node.specs.Phases.{mode_in}
use Rattle.replica_node.specs.ReplicaView.{ReplicaView, node_of, partition_of}
use Rattle.replica_node.specs.StandsFor as replica_stands
use Rattle.replica_node.specs.declared.phase.Mode.TheVariants as mode
use Rattle.replica_node.specs.declared.phase.Phase.{Phase}
use Rattle.replica_node.specs.declared.phase.Phase.TheVariants as phase
use Rattle.pair_control.specs.ControllerView.{ControllerView}
use Rattle.ingress_egress.specs.EgressStands as egress
use Rattle.ingress_egress.specs.EgressView.{EgressView}
use Rattle.ingress_egress.specs.IngressView.{IngressView}
use Rattle.node_tasks.specs.Tasks.{DoesStep}
use Rattle.node_tasks.specs.declared.task.Task.{Task}
use Rattle.node_tasks.specs.declared.task.Task.TheVariants as task
use Rattle.plan_nodes.specs.States.{HasActedBehind, IsIdle, StandsFor, contents_of, gone_of, has_ended, id_of, inputs_in}
use Rattle.plan_nodes.specs.declared.state.NodeState.{NodeState}
use Rattle.plan_nodes.specs.declared.state.NodeState.TheVariants as state
use Rattle.plan_nodes.proofs.Acting.{all_of_none, failed_same, none_appended, quietly}
use Rattle.flux_core.specs.Acts.{ActsSo, HasAnswered, IsActOf, IsNextAt, IsRefusedSo, answer_at, reason_at}
use Rattle.flux_core.specs.CoreView.{Log}
use Rattle.flux_core.specs.Sent.{bodies_to}
use Rattle.flux_core.specs.declared.asked.Asked.{Asked}
use Rattle.flux_core.specs.declared.asked.Asked.TheVariants as asked
use Rattle.flux_core.specs.declared.error.ApplyError.{ApplyError}
use Rattle.flux_core.specs.declared.error.ApplyError.TheVariants as error

-- ---- packets without their clocks

pub pairwise_bodies : (R : Body → Message → Type 0) (clock : ℕ) (to : NodeId) (ps : Log) (ms : List Message) → Pairwise (λ (p : Packet) m. R p.body m) (packets_to clock to ps) ms → Pairwise R (bodies_to to ps) ms
pairwise_bodies R clock to [] ms h = go ms h
  where
    go : (ms : List Message) → Pairwise (λ (p : Packet) m. R p.body m) [] ms → Pairwise R [] ms
    go [] h = tt
    go (m ∷ ms) h = h
pairwise_bodies R clock to (p ∷ ps) ms h = go (is_node p.0 to) ms (λ ns. pairwise_bodies R clock to ps ns) h
  where
    go : (b : Bool) (ms : List Message) → ((ns : List Message) → Pairwise (λ (q : Packet) m. R q.body m) (packets_to clock to ps) ns → Pairwise R (bodies_to to ps) ns)
        → Pairwise (λ (q : Packet) m. R q.body m) (if b then record { at = clock; body = p.1 } ∷ packets_to clock to ps else packets_to clock to ps) ms
        → Pairwise R (if b then p.1 ∷ bodies_to to ps else bodies_to to ps) ms
    go true [] rest h = h
    go true (m ∷ ns) rest h = (h.0, rest ns h.1)
    go false ns rest h = rest ns h

-- ---- on either answer

pub on_ok-map : {X E : Type 0} (r : Result X E) (P Q : Type 0) → (P → Q) → OnOk r P → OnOk r Q
on_ok-map (Ok x) P Q g h = g h
on_ok-map (Err e) P Q g h = h

pub if_err-map : {X E : Type 0} (r : Result X E) (P Q : E → Type 0) → ((e : E) → P e → Q e) → IfErr r P → IfErr r Q
if_err-map (Ok x) P Q g h = h
if_err-map (Err e) P Q g h = g e h

pub on_err-map : {X E : Type 0} (r : Result X E) (P Q : Type 0) → (P → Q) → OnErr r P → OnErr r Q
on_err-map (Ok x) P Q g h = h
on_err-map (Err e) P Q g h = g h

pub if_ok-map : {X E : Type 0} (r : Result X E) (P Q : X → Type 0) → ((x : X) → P x → Q x) → IfOk r P → IfOk r Q
if_ok-map (Ok x) P Q g h = g x h
if_ok-map (Err e) P Q g h = h

-- ---- acts

-- what a course's step gives, with some clock, is the machine's act
acts_by : (plan : PlanView) (t : Asked) (old new : NodeState) (sent : Log)
    → ((inputs : List Input) → IsPlan plan → AreTimely inputs → (x : Node) (a : Act) → IsActOf plan inputs (id_of old) t x a → StandsFor plan inputs old x → Asks (flow_of plan inputs) (id_of old) x a
    → (d : Node × List Envelope) × (does (flow_of plan inputs) (id_of old) a x ≡ Ok d) × StandsFor plan inputs new d.0
    × ((to : NodeId) → ArePacketsOf (BodyStands plan inputs) (link (id_of old) to) (packets_to 0 to sent) (messages_to to d.1)))
    → ActsSo plan t old new sent
acts_by plan t old new sent h = λ inputs p timely x a i s k.
    let z = h inputs p timely x a i s k in
    (z.0, z.1, z.2, λ to. pairwise_bodies (BodyStands plan inputs (link (id_of old) to)) 0 to sent (messages_to to z.0.1) (z.3 to))

-- a step of a node is the machine's act there, whatever its place and its clock
acts_of : (plan : PlanView) (old new : NodeState) (t : Task) (sent : Log) → DoesStep id_of StandsFor t old new sent → ActsSo plan (asked.Task t) old new sent
acts_of plan old new t sent step = acts_by plan (asked.Task t) old new sent (λ rows p timely x a i s k. step plan rows p timely 0 a i x s k)

-- ---- refusals

-- what is refused of one act is refused of the act that a task stands for
pub refused_as : (f : Flow) (n : NodeId) (x : Node) (b a : Act) (r : Refusal) → a ≡ b → does f n b x ≡ Err r → does f n a x ≡ Err r
refused_as f n x b a r e h = subst (λ k. does f n k x ≡ Err r) (sym e) h

-- ingress and the other nodes refuse to make for reasons of their own
no_make : (plan : PlanView) (s : NodeState) → IsIdle 1 s task.Make → IsRefusedSo plan (asked.Task task.Make) s (reason_at (id_of s) task.Make)
no_make plan (state.Ingress v) idle = λ came rows p x a i s. refused_as (flow_of plan rows) node.Ingress x Makes a NoMoreRows i (idle came plan rows p x s)
no_make plan (state.Replica v) idle = λ came rows p x a i s. refused_as (flow_of plan rows) (node_of v.role) x Makes a NothingDue i (idle came plan rows p x s)
no_make plan (state.Control v) idle = λ came rows p x a i s. refused_as (flow_of plan rows) (id_of (state.Control v)) x Makes a NothingDue i (idle came plan rows p x s)
no_make plan (state.Egress v) idle = λ came rows p x a i s. refused_as (flow_of plan rows) node.Egress x Makes a NothingDue i (idle came plan rows p x s)

-- a node that did nothing has an answer that the machine gives too
refused_idle : (plan : PlanView) (s : NodeState) (t : Task) → IsIdle 1 s t → IsRefusedSo plan (asked.Task t) s (reason_at (id_of s) t)
refused_idle plan s (task.Take from index packet) idle = λ came rows p x a i h. tt
refused_idle plan s task.Work idle = λ came rows p x a i h. refused_as (flow_of plan rows) (id_of s) x Works a NothingDue i (idle (omega arith) plan rows p x h)
refused_idle plan s task.Make idle = no_make plan s idle
refused_idle plan s task.Kill idle = λ came rows p x a i h. refused_as (flow_of plan rows) (id_of s) x Dies a NotRunning i (idle plan rows p x h)
refused_idle plan s task.AskStop idle = λ came rows p x a i h. refused_as (flow_of plan rows) (id_of s) x AsksStop a NotRunning i (idle plan rows p x h)
refused_idle plan s task.AskBack idle = λ came rows p x a i h. refused_as (flow_of plan rows) (id_of s) x AsksBack a NotRunning i (idle plan rows p x h)

-- ---- whatever came of it

none_sent : (before after : Log) → after ≡ before ++ appended before after → appended before after ≡ [] → after ≡ before
none_sent before after more none = more ∙ ap (λ l. before ++ l) none ∙ append-nil before

answered_so : (old new : NodeState) (t : Task) (came : Result Worked OutOfMemory) (before after : Log) → HasActedBehind old new t came before after → (came ≡ Ok Idle → IsIdle 1 old t)
    → HasAnswered old new (asked.Task t) (answer_at (id_of old) t came) before after
answered_so old new t (Ok Did) before after h idle = record {
  acts = λ plan. acts_of plan old new t (appended before after) (h.done.acted.step refl);
  packets = h.packets;
  refused = tt;
  unchanged = tt;
  id = h.done.acted.id;
  inputs = h.done.inputs;
  ended = h.done.ended;
  gone = h.done.acted.gone;
}
answered_so old new t (Ok Idle) before after h idle = record {
  acts = tt;
  packets = h.packets;
  refused = λ plan. refused_idle plan old t (idle refl);
  unchanged = (ap contents_of (h.done.acted.idle refl).0, none_sent before after h.packets (h.done.acted.idle refl).1);
  id = h.done.acted.id;
  inputs = h.done.inputs;
  ended = h.done.ended;
  gone = h.done.acted.gone;
}
answered_so old new t (Err lack) before after h idle = record {
  acts = tt;
  packets = h.packets;
  refused = λ plan came rows p x a i s. tt;
  unchanged = (h.done.contents, none_sent before after h.packets h.done.acted.unsent);
  id = h.done.acted.id;
  inputs = h.done.inputs;
  ended = h.done.ended;
  gone = h.done.acted.gone;
}

-- what a core says of a node that was given a task
pub node_answered : (old new : NodeState) (t : Task) (came : Result Worked OutOfMemory) (r : Result (Unit {0}) ApplyError) (before after : Log) → r ≡ answer_at (id_of old) t came → HasActedBehind old new t came before after →
    (came ≡ Ok Idle → IsIdle 1 old t) → HasAnswered old new (asked.Task t) r before after
node_answered old new t came r before after is h idle = subst (λ k. HasAnswered old new (asked.Task t) k before after) (sym is) (answered_so old new t came before after h idle)

-- there was no memory for it
pub node_lacked : (s : NodeState) (t : Task) (before : Log) (e : OutOfMemory) → HasActedBehind s s t (Err e) before before
node_lacked s t before e = quietly s s t (Err e) before (failed_same s s t [] e refl refl)

-- ---- pulls

-- it took an item, and sent nothing
pub has_pulled : (old new : NodeState) (q : ℕ) (i : Item) → ((plan : PlanView) → ActsSo plan (asked.Pull q i) old new []) → id_of new ≡ id_of old → inputs_in new ≡ inputs_in old → has_ended new ≡ has_ended old → gone_of new ≡ gone_of old
    → HasAnswered old new (asked.Pull q i) (Ok tt) [] []
has_pulled old new q i acts id inputs ended gone = record { acts = acts; packets = refl; refused = tt; unchanged = tt; id = id; inputs = inputs; ended = ended; gone = gone }

-- it took none, for a reason that the machine has too
pub not_pulled : (s : NodeState) (q : ℕ) (i : Item) (e : ApplyError) → ((plan : PlanView) → IsRefusedSo plan (asked.Pull q i) s e) → HasAnswered s s (asked.Pull q i) (Err e) [] []
not_pulled s q i e refused = record { acts = tt; packets = refl; refused = refused; unchanged = (refl, refl); id = refl; inputs = refl; ended = refl; gone = refl }

pub replica_pulled : (plan : PlanView) (v w : ReplicaView) (q : ℕ) (i : Item) → w.role ≡ v.role
    → ((inputs : List Input) (x : RunningNumbers) (n : Node) → IsPlan plan → replica_stands.StandsFor plan inputs v n → replica_in n ≡ Running x
    → item_at (items_on plan inputs (in_edge (partition_of v.role) q)) (x.consumer.marks q + 1) ≡ Some i
    → replica_stands.StandsFor plan inputs w (ReplicaNode (Running (record x { consumer = pulled x.consumer q }))))
    → ActsSo plan (asked.Pull q i) (state.Replica v) (state.Replica w) []
replica_pulled plan v w q i role h = acts_by plan (asked.Pull q i) (state.Replica v) (state.Replica w) [] (λ inputs p timely x a is s k. go inputs p x a (replica_in x) refl is.0 is.1 s)
  where
    go : (inputs : List Input) → IsPlan plan → (x : Node) (a : Act) (r : Replica) → replica_in x ≡ r → a ≡ Pulls q → IsNextAt plan inputs (node_of v.role) q i (mark_in q r) → replica_stands.StandsFor plan inputs v x
        → (d : Node × List Envelope) × (does (flow_of plan inputs) (node_of v.role) a x ≡ Ok d) × StandsFor plan inputs (state.Replica w) d.0
        × ((to : NodeId) → ArePacketsOf (BodyStands plan inputs) (link (node_of v.role) to) (packets_to 0 to []) (messages_to to d.1))
    go inputs p x a (Gone inc) e same next s = absurd next
    go inputs p x a (Gathering g) e same next s = absurd next
    go inputs p x a (Running y) e same next s =
        let d : Node × List Envelope = (ReplicaNode (Running (record y { consumer = pulled y.consumer q })), []) in
        let done : does (flow_of plan inputs) (node_of v.role) a x ≡ Ok d = ap (λ b. does (flow_of plan inputs) (node_of v.role) b x) same ∙ ap (λ z. as_replica (replica_pulls q z)) e in
        (d, done, h inputs y x p s e next, λ to. tt)

pub egress_pulled : (plan : PlanView) (v w : EgressView) (q : ℕ) (i : Item)
    → ((inputs : List Input) (n : Node) → IsPlan plan → egress.StandsFor plan inputs v n
    → item_at (items_on plan inputs (in_edge (egress_partition (flow_of plan inputs)) q)) ((egress_in n).marks q + 1) ≡ Some i
    → egress.StandsFor plan inputs w (EgressNode (pulled (egress_in n) q)))
    → ActsSo plan (asked.Pull q i) (state.Egress v) (state.Egress w) []
egress_pulled plan v w q i h = acts_by plan (asked.Pull q i) (state.Egress v) (state.Egress w) [] (λ inputs p timely x a is s k.
    let d : Node × List Envelope = (EgressNode (pulled (egress_in x) q), []) in
    (d, ap (λ b. does (flow_of plan inputs) node.Egress b x) is.0, h inputs x p s is.1, λ to. tt))

-- nothing that doesn't run has a next item
no_next : (plan : PlanView) (inputs : List Input) (p : Partition) (f : Phase) (r : Replica) (n : NodeId) (q : ℕ) (i : Item) → mode_in f ≢ mode.Running → replica_stands.PhaseStands plan inputs p f r → IsNextAt plan inputs n q i (mark_in q r) → ⊥
no_next plan inputs p (phase.Running f) r n q i idle h next = idle refl
no_next plan inputs p (phase.Gathering f) (Running x) n q i idle h next = h
no_next plan inputs p (phase.Gathering f) (Gathering x) n q i idle h next = next
no_next plan inputs p (phase.Gathering f) (Gone inc) n q i idle h next = next
no_next plan inputs p (phase.Gone f) (Running x) n q i idle h next = h
no_next plan inputs p (phase.Gone f) (Gathering x) n q i idle h next = next
no_next plan inputs p (phase.Gone f) (Gone inc) n q i idle h next = next

pub replica_idle : (v : ReplicaView) (q : ℕ) (i : Item) → mode_in v.phase ≢ mode.Running → (plan : PlanView) → IsRefusedSo plan (asked.Pull q i) (state.Replica v) error.NotRunning
replica_idle v q i idle plan = λ came rows p x a is s. absurd (no_next plan rows (partition_of v.role) v.phase (replica_in x) (node_of v.role) q i idle s.phase_stands is.1)

-- nor have ingress and a controller one
pub ingress_pulls_none : (v : IngressView) (q : ℕ) (i : Item) (plan : PlanView) → IsRefusedSo plan (asked.Pull q i) (state.Ingress v) error.NotRunning
ingress_pulls_none v q i plan = λ came rows p x a is h. absurd is.1

pub control_pulls_none : (v : ControllerView) (q : ℕ) (i : Item) (plan : PlanView) → IsRefusedSo plan (asked.Pull q i) (state.Control v) error.NotRunning
control_pulls_none v q i plan = λ came rows p x a is h. absurd is.1

-- what sent nothing, behind whatever lies there
pub behind : (old new : NodeState) (t : Asked) (r : Result (Unit {0}) ApplyError) (before : Log) → HasAnswered old new t r [] [] → HasAnswered old new t r before before
behind old new t r before h =
    let none : appended before before ≡ [] = none_appended before before refl in
    record {
      acts = on_ok-map r _ _ (λ acts plan. subst (ActsSo plan t old new) (sym none) (acts plan)) h.acts;
      packets = all_of_none before before refl;
      refused = h.refused;
      unchanged = on_err-map r _ _ (λ same. (same.0, refl)) h.unchanged;
      id = h.id;
      inputs = h.inputs;
      ended = h.ended;
      gone = h.gone;
    }
