-- From a node's clauses to its part of the machine's step.
use Rattle.std.proofs.Common.{◌≡◌, ◌∙◌, ◌++◌, ◌+◌, ℕ, List, [], Option, None, Some, Result, Ok, Err, OnOk, IfErr, IfOk, drop, length, refl, sym, ap, subst}
use Rattle.std.proofs.lemmas.List.{append-nil, drop_at}
use Rattle.tuple_edge.specs.Input.{Input}
use Rattle.tuple_edge.specs.declared.item.Item.{Item}
use Rattle.merge_order.specs.Edges.{item_at}
use Rattle.plan_reader.specs.PlanView.{IsPlan, PlanView}
use Rattle.pair_machine.specs.Boundary.{egress_partition}
use Rattle.pair_machine.specs.Consumers.{pulled}
use Rattle.pair_machine.specs.Counts.{flow_of, items_on}
use Rattle.pair_machine.specs.Numbers.{in_edge}
use Rattle.ingress_egress.specs.EgressView.{EgressView}
use Rattle.trio_machine.specs.Asked.{Asks}
use Rattle.trio_machine.specs.Flow.{IsTrioPlan, trio_flow}
use Rattle.trio_machine.specs.Machine.{as_replica, does, egress_in, mark_in, replica_in}
use Rattle.trio_machine.specs.Messages.{Act, Dies, NotRunning, Refusal}
use Rattle.trio_machine.specs.Numbers.{EgressNode, Gone, Node, Replica, ReplicaNode, Running, RunningNumbers}
use Rattle.trio_machine.specs.Replicas.{replica_dies, replica_pulls}
use Rattle.trio_machine.specs.declared.body.TrioBody.{TrioBody}
use Rattle.trio_machine.specs.declared.node.TrioNode.{TrioNode}
use Rattle.trio_machine.specs.declared.node.TrioNode.TheVariants as node
use Rattle.trio_nodes.specs.Contents.{appended}
use Rattle.trio_nodes.specs.Egress as egress
use Rattle.trio_nodes.specs.Replica as replica
use Rattle.trio_nodes.specs.Replica.{RunningStands}
use Rattle.trio_nodes.specs.ReplicaView.{ReplicaView, node_of, partition_of}
use Rattle.trio_nodes.specs.Steps.{IsRefused, IsStep, IsTaken}
use Rattle.trio_nodes.specs.declared.running.TrioRunning.{TrioRunning}
use Rattle.trio_core.specs.Acts.{ActsSo, IsActOf, IsAsked, IsDone, IsNextAt}
use Rattle.trio_core.specs.CoreView.{Log, StationView, contents_of, inputs_in, name_of}
use Rattle.trio_core.specs.Stands.{MemberStands}
use Rattle.trio_core.specs.Steps.{HasActed}
use Rattle.trio_core.specs.declared.member.Member.{Member}
use Rattle.trio_core.specs.declared.member.Member.TheVariants as member
use Rattle.trio_core.specs.declared.task.TrioTask.{TrioTask}
use Rattle.trio_core.specs.declared.task.TrioTask.TheVariants as task
use Rattle.trio_core.proofs.Contents.{acts_in, inputs_of_contents, name_in}

-- ---- what was appended

pub appended_is : (before after sent : Log) → after ≡ before ++ sent → appended before after ≡ sent
appended_is before after sent e = ap (drop (length before)) e ∙ drop_at before sent (length before) refl

pub appended_none : (before : Log) → appended before before ≡ []
appended_none before = appended_is before before [] (sym (append-nil before))

-- ---- acts

-- a packet was taken, and this was sent
pub took : (old new : Member) (from : TrioNode) (b : TrioBody) (sent : Log)
    → ((plan : PlanView) (inputs : List Input) → IsTrioPlan plan → IsTaken plan inputs (name_of old) (MemberStands plan inputs old) (MemberStands plan inputs new) from b sent)
    → ActsSo (task.Take from b) old new sent
took old new from b sent h = λ plan inputs x a k.
    let f = trio_flow plan inputs in
    let n = name_of old in
    let z = h plan inputs k.plan_is k.act.0 k.act.2 x k.stands (subst (Asks f n x) k.act.1 k.asks) in
    record { done = z.0; does = ap (λ o. does f n o x) k.act.1 ∙ z.1; stands = z.2; packets = z.3 }

-- another act was done, and this was sent
pub did : (t : TrioTask) (act : Act) (old new : Member) (sent : Log) → ((plan : PlanView) (inputs : List Input) (x : Node) (a : Act) → IsActOf plan inputs (name_of old) t x a → a ≡ act)
    → ((plan : PlanView) (inputs : List Input) → IsTrioPlan plan → IsStep plan inputs (name_of old) (MemberStands plan inputs old) (MemberStands plan inputs new) act sent)
    → ActsSo t old new sent
did t act old new sent same h = λ plan inputs x a k.
    let f = trio_flow plan inputs in
    let n = name_of old in
    let e = same plan inputs x a k.act in
    let z = h plan inputs k.plan_is x k.stands (subst (Asks f n x) e k.asks) in
    record { done = z.0; does = ap (λ o. does f n o x) e ∙ z.1; stands = z.2; packets = z.3 }

-- the machine refuses what is asked
pub refuses : (t : TrioTask) (act : Act) (m : Member) (r : Refusal) → ((plan : PlanView) (inputs : List Input) (x : Node) (a : Act) → IsActOf plan inputs (name_of m) t x a → a ≡ act)
    → ((plan : PlanView) (inputs : List Input) → IsTrioPlan plan → IsRefused plan inputs (name_of m) (MemberStands plan inputs m) act r)
    → (plan : PlanView) (inputs : List Input) (x : Node) (a : Act) → IsAsked plan inputs t m x a → does (trio_flow plan inputs) (name_of m) a x ≡ Err r
refuses t act m r same h = λ plan inputs x a k. ap (λ o. does (trio_flow plan inputs) (name_of m) o x) (same plan inputs x a k.act) ∙ h plan inputs k.plan_is x k.stands

-- egress took the next item of an edge
pub egress_pulled : (old new : EgressView) (q : ℕ) (i : Item)
    → ((plan : PlanView) (inputs : List Input) (x : Node) → IsPlan plan → egress.StandsFor plan inputs old x
    → item_at (items_on plan inputs (in_edge (egress_partition (flow_of plan inputs)) q)) ((egress_in x).marks q + 1) ≡ Some i
    → egress.StandsFor plan inputs new (EgressNode (pulled (egress_in x) q)))
    → ActsSo (task.Pull q i) (member.Egress old) (member.Egress new) []
egress_pulled old new q i h = λ plan inputs x a k. record {
  done = (EgressNode (pulled (egress_in x) q), []);
  does = ap (λ o. does (trio_flow plan inputs) node.Egress o x) k.act.0;
  stands = h plan inputs x k.plan_is.within k.stands k.act.1;
  packets = record { messages = refl; items = tt };
}

-- ---- of a replica

-- a replica took the next item of an edge
pub replica_pulled : (old new : ReplicaView) (q : ℕ) (i : Item)
    → ((plan : PlanView) (inputs : List Input) (x : RunningNumbers) (n : Node) → IsPlan plan → replica.StandsFor plan inputs old n → replica_in n ≡ Running x
    → item_at (items_on plan inputs (in_edge (partition_of old.role) q)) (x.consumer.marks q + 1) ≡ Some i
    → replica.StandsFor plan inputs new (ReplicaNode (Running (record x { consumer = pulled x.consumer q }))))
    → ActsSo (task.Pull q i) (member.Replica old) (member.Replica new) []
replica_pulled old new q i h = λ plan inputs x a k. at plan inputs x a k (replica_in x) refl k.act.1
  where
    at : (plan : PlanView) (inputs : List Input) (x : Node) (a : Act) → IsAsked plan inputs (task.Pull q i) (member.Replica old) x a → (r : Replica) → replica_in x ≡ r → IsNextAt plan inputs (node_of old.role) q i (mark_in q r)
        → IsDone plan inputs (member.Replica new) [] x a (node_of old.role)
    at plan inputs x a k Gone is next = absurd next
    at plan inputs x a k (Running y) is next = record {
      done = (ReplicaNode (Running (record y { consumer = pulled y.consumer q })), []);
      does = ap (λ o. does (trio_flow plan inputs) (node_of old.role) o x) k.act.0 ∙ ap (λ r. as_replica (replica_pulls q r)) is;
      stands = h plan inputs y x k.plan_is.within k.stands is next;
      packets = record { messages = refl; items = tt };
    }

-- one that is gone can't fail
pub gone_dies : (v : ReplicaView) → v.running ≡ None → (plan : PlanView) (inputs : List Input) → IsTrioPlan plan → IsRefused plan inputs (node_of v.role) (replica.StandsFor plan inputs v) Dies NotRunning
gone_dies v gone plan inputs is x stands = ap as_replica (dies v.running gone (replica_in x) stands.running)
  where
    dies : (r : Option TrioRunning) → r ≡ None → (y : Replica) → RunningStands plan inputs (partition_of v.role) r y → replica_dies (partition_of v.role) y ≡ Err NotRunning
    dies None e Gone h = refl
    dies None e (Running y) h = absurd h
    dies (Some r) e y h = let z : ⊥ = cc e in absurd z

-- ---- a station

pub station_acted : (t : TrioTask) (self : StationView) (name : TrioNode) (old new : Member) (before held after : Log) → (record { name = name; member = contents_of old; sent = before }) ≡ self → held ≡ before
    → after ≡ held ++ appended held after → inputs_in new ≡ inputs_in old → name_of new ≡ name_of old → ActsSo t old new (appended held after) → HasActed t self (record { name = name; member = contents_of new; sent = after })
station_acted t self name old new before held after same room more inputs member acts = subst (λ (k : StationView). HasActed t k (record { name = name; member = contents_of new; sent = after })) same (record {
  name = refl;
  member = name_in new ∙ member ∙ sym (name_in old);
  inputs = inputs_of_contents new ∙ inputs ∙ sym (inputs_of_contents old);
  sent = appended held after;
  noted = more ∙ ap (λ l. l ++ appended held after) room;
  acts = acts_in t old new (appended held after) acts;
})

-- ---- on either answer

pub on_ok-map : {X E : Type 0} (r : Result X E) (P Q : Type 0) → (P → Q) → OnOk r P → OnOk r Q
on_ok-map (Ok x) P Q g h = g h
on_ok-map (Err e) P Q g h = h

pub if_err-map : {X E : Type 0} (r : Result X E) (P Q : E → Type 0) → ((e : E) → P e → Q e) → IfErr r P → IfErr r Q
if_err-map (Ok x) P Q g h = h
if_err-map (Err e) P Q g h = g e h

pub if_ok-map : {X E : Type 0} (r : Result X E) (P Q : X → Type 0) → ((x : X) → P x → Q x) → IfOk r P → IfOk r Q
if_ok-map (Ok x) P Q g h = g x h
if_ok-map (Err e) P Q g h = h
