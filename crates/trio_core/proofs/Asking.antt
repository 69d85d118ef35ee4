-- A packet that a node may be asked to take is one that its call admits.
use Rattle.std.proofs.Common.{All, ◌≡◌, ◌∙◌, ◌<◌, ◌≤◌, ◌+◌, ◌-◌, ℕ, zero, suc, List, [], ◌∷◌, Option, None, Some, length, sym, ap, subst, arith}
use Rattle.std.specs.Prelude.{slice_get}
use Rattle.std.proofs.lemmas.List.Elements.{All-head, All-tail}
use Rattle.tuple_edge.specs.Input.{Input}
use Rattle.tuple_edge.specs.Limits.{number_limit}
use Rattle.tuple_edge.specs.declared.item.Item.{Item}
use Rattle.tuple_edge.specs.declared.node.EdgeId.{EdgeId}
use Rattle.merge_order.specs.Edges.{item_at}
use Rattle.op_spec.specs.Times.{IsTimely}
use Rattle.plan_reader.specs.Nodes.{parts_of, sources_of}
use Rattle.plan_reader.specs.PlanView.{PlanView}
use Rattle.plan_reader.specs.declared.stage.Stage.{Stage}
use Rattle.ingress_egress.specs.EgressView.{EgressView}
use Rattle.pair_machine.proofs.EdgeLaws.{parts_at, times_stay}
use Rattle.pair_machine.specs.Counts.{flow_of, items_on}
use Rattle.pair_machine.specs.Flow.{Flow}
use Rattle.pair_machine.specs.Numbers.{in_edge}
use Rattle.partition_step.specs.Answering.{HasParts, targets_of}
use Rattle.partition_step.proofs.Places as places
use Rattle.trio_machine.specs.Asked.{ActAsks, TakenAsks}
use Rattle.trio_machine.specs.Flow.{IsTrioPlan, trio_flow}
use Rattle.trio_machine.specs.Links.{Acknowledges, HasNode, IsCarried, IsProducer}
use Rattle.trio_machine.specs.Machine.{mark_of}
use Rattle.trio_machine.specs.Numbers.{Node}
use Rattle.trio_machine.specs.declared.body.TrioBody.{TrioBody}
use Rattle.trio_machine.specs.declared.body.TrioBody.TheVariants as body
use Rattle.trio_machine.specs.declared.node.TrioNode.{TrioNode}
use Rattle.trio_machine.specs.declared.node.TrioNode.TheVariants as node
use Rattle.trio_machine.proofs.Laws.{trio_is_flow}
use Rattle.trio_nodes.specs.Contents.{HasItem, message_of}
use Rattle.trio_nodes.specs.ControllerPackets as control
use Rattle.trio_nodes.specs.ControllerView.{ControllerView, node_of}
use Rattle.trio_nodes.specs.Egress as egress
use Rattle.trio_nodes.specs.Ingress as ingress
use Rattle.trio_nodes.specs.IngressView.{IngressView}
use Rattle.trio_nodes.specs.IngressView as ingress_view
use Rattle.trio_nodes.specs.Replica.{IsOfPlan}
use Rattle.trio_nodes.specs.ReplicaView as view
use Rattle.trio_nodes.specs.ReplicaView.{IsAdmitted, ReplicaView, partition_of}
use Rattle.trio_nodes.specs.declared.role.TrioRole.{TrioRole}
use Rattle.trio_core.specs.Acts.{Fits, IsNextAt, MayBeAsked, merges_at}
use Rattle.trio_core.specs.CoreView.{name_of}
use Rattle.trio_core.specs.Stands.{AreTimely}
use Rattle.trio_core.specs.declared.member.Member.{Member}
use Rattle.trio_core.specs.declared.member.Member.TheVariants as member
use Rattle.trio_core.specs.declared.task.TrioTask.TheVariants as task

-- what a node is asked to take stands where it may
pub carried : (from : TrioNode) (b : TrioBody) (m : Member) (h : MayBeAsked (task.Take from b) m) → IsCarried (trio_flow h.plan h.inputs) from (name_of m) (message_of b)
carried from b m h =
    let f = trio_flow h.plan h.inputs in
    let n = name_of m in
    let taken : TakenAsks f n from h.asked.act.0 = subst (ActAsks f n) h.asked.act.1 h.asked.asks.1 in
    subst (λ k. IsCarried f from n k) (sym h.asked.act.2.numbers) taken.carried

-- ---- of a controller

control_admits : (f : Flow) (c : ControllerView) (from : TrioNode) (b : TrioBody) → length c.acked ≡ f.sources c.stage → IsCarried f from (node_of c) (message_of b) → c.term + 1 < number_limit → control.IsAdmitted c from b
control_admits f c from (body.Tuple e n i) edges h rises = absurd h.carries.1
control_admits f c from (body.Ack e k) edges h rises = absurd h.carries.1
control_admits f c from (body.Lead t) edges h rises = absurd h.carries
control_admits f c (node.Replica s p d) (body.Report e k) edges h rises = record {
  sender = (h.carries.0.0, h.carries.0.1, h.sender.1);
  heard = (h.carries.1.0, h.carries.1.1, subst (λ n. e.from < n) (sym edges) h.carries.1.2);
  rises = rises;
}
control_admits f c (node.Replica s p d) body.Down edges h rises = record { sender = (h.carries.0, h.carries.1, h.sender.1); heard = tt; rises = rises }
control_admits f c node.Ingress (body.Report e k) edges h rises = absurd h.carries.0
control_admits f c node.Ingress body.Down edges h rises = absurd h.carries
control_admits f c (node.Control s p) (body.Report e k) edges h rises = absurd h.carries.0
control_admits f c (node.Control s p) body.Down edges h rises = absurd h.carries
control_admits f c node.Egress (body.Report e k) edges h rises = absurd h.carries.0
control_admits f c node.Egress body.Down edges h rises = absurd h.carries

pub control_takes : (c : ControllerView) (from : TrioNode) (b : TrioBody) → MayBeAsked (task.Take from b) (member.Control c) → c.term + 1 < number_limit → control.IsAdmitted c from b
control_takes c from b h rises = control_admits (trio_flow h.plan h.inputs) c from b h.asked.stands.edges (carried from b (member.Control c) h) rises

-- ---- of egress

egress_admits : (plan : PlanView) (inputs : List Input) → IsTrioPlan plan → (e : EgressView) (from : TrioNode) (b : TrioBody) (x : Node) → egress.StandsFor plan inputs e x
    → IsCarried (trio_flow plan inputs) from node.Egress (message_of b) → egress.IsAdmitted e from b
unfolding flow_of
egress_admits plan inputs is e (node.Replica s p c) (body.Tuple g n i) x stands h =
    let last : s ≡ length plan.stages = sym h.carries.0.1 ∙ h.carries.1.0 in
    let there : p < length e.consumer.merge.marks = subst (λ k. p < k) (sym stands.consumer.edges) (subst (λ k. p < (trio_flow plan inputs).sources (k + 1)) last h.sender.0.part) in (
      last ∙ sym stands.stages,
      there,
      h.carries.1.0 ∙ sym stands.stages,
      h.carries.0.2,
      h.carries.1.1,
    )
egress_admits plan inputs is e node.Ingress (body.Tuple g n i) x stands h =
    let none : 0 ≡ length plan.stages = sym h.carries.0.0 ∙ h.carries.1.0 in
    let some : 1 ≤ length plan.stages = (trio_is_flow plan inputs is).flow.some_stage in absurd (omega (arith, none, some))
egress_admits plan inputs is e (node.Control s p) (body.Tuple g n i) x stands h = absurd h.carries.0
egress_admits plan inputs is e node.Egress (body.Tuple g n i) x stands h = absurd h.carries.0
egress_admits plan inputs is e from (body.Ack g k) x stands h = absurd h.carries.1
egress_admits plan inputs is e from (body.Lead t) x stands h = absurd h.carries
egress_admits plan inputs is e node.Ingress (body.Report g k) x stands h = absurd h.carries.0
egress_admits plan inputs is e (node.Replica s p c) (body.Report g k) x stands h = absurd h.carries.0
egress_admits plan inputs is e (node.Control s p) (body.Report g k) x stands h = absurd h.carries.0
egress_admits plan inputs is e node.Egress (body.Report g k) x stands h = absurd h.carries.0
egress_admits plan inputs is e node.Ingress body.Down x stands h = absurd h.carries
egress_admits plan inputs is e (node.Replica s p c) body.Down x stands h = absurd h.carries
egress_admits plan inputs is e (node.Control s p) body.Down x stands h = absurd h.carries
egress_admits plan inputs is e node.Egress body.Down x stands h = absurd h.carries

pub egress_takes : (e : EgressView) (from : TrioNode) (b : TrioBody) → MayBeAsked (task.Take from b) (member.Egress e) → egress.IsAdmitted e from b
egress_takes e from b h = egress_admits h.plan h.inputs h.asked.plan_is e from b h.numbers h.asked.stands (carried from b (member.Egress e) h)

-- ---- of ingress

ingress_admits : (plan : PlanView) (inputs : List Input) → IsTrioPlan plan → (i : IngressView) (from : TrioNode) (b : TrioBody) (x : Node) → ingress.StandsFor plan inputs i x
    → IsCarried (trio_flow plan inputs) from node.Ingress (message_of b) → Fits b → ingress_view.IsAdmitted i from b
unfolding flow_of
ingress_admits plan inputs is i (node.Control s p) (body.Ack e k) x stands h fits =
    let first : s ≡ 1 = let a = h.carries.0.0 in let z = h.carries.1.0 in omega arith in
    let part : p < (trio_flow plan inputs).sources 2 = subst (λ t. p < (trio_flow plan inputs).sources (t + 1)) first h.sender.part in
    (h.carries.0.1, subst (λ n. p < n) (parts_at plan.stages 0 i.first stands.first) part, fits)
ingress_admits plan inputs is i node.Egress (body.Ack e k) x stands h fits =
    let none : 0 ≡ length plan.stages = sym h.carries.1.0 ∙ h.carries.0.0 in
    let some : 1 ≤ length plan.stages = (trio_is_flow plan inputs is).flow.some_stage in absurd (omega (arith, none, some))
ingress_admits plan inputs is i node.Ingress (body.Ack e k) x stands h fits = absurd h.carries.0
ingress_admits plan inputs is i (node.Replica s p c) (body.Ack e k) x stands h fits = absurd h.carries.0
ingress_admits plan inputs is i from (body.Tuple e n j) x stands h fits = absurd h.carries.1
ingress_admits plan inputs is i node.Ingress (body.Report e k) x stands h fits = absurd h.carries.0
ingress_admits plan inputs is i (node.Replica s p c) (body.Report e k) x stands h fits = absurd h.carries.0
ingress_admits plan inputs is i (node.Control s p) (body.Report e k) x stands h fits = absurd h.carries.0
ingress_admits plan inputs is i node.Egress (body.Report e k) x stands h fits = absurd h.carries.0
ingress_admits plan inputs is i from (body.Lead t) x stands h fits = absurd h.carries
ingress_admits plan inputs is i node.Ingress body.Down x stands h fits = absurd h.carries
ingress_admits plan inputs is i (node.Replica s p c) body.Down x stands h fits = absurd h.carries
ingress_admits plan inputs is i (node.Control s p) body.Down x stands h fits = absurd h.carries
ingress_admits plan inputs is i node.Egress body.Down x stands h fits = absurd h.carries

pub ingress_takes : (i : IngressView) (from : TrioNode) (b : TrioBody) → MayBeAsked (task.Take from b) (member.Ingress i) → Fits b → ingress_view.IsAdmitted i from b
ingress_takes i from b h fits = ingress_admits h.plan h.inputs h.asked.plan_is i from b h.numbers h.asked.stands (carried from b (member.Ingress i) h) fits

-- ---- of a replica

timely_of : (items : List Item) → All IsTimely items → (n : ℕ) (i : Item) → slice_get items n ≡ Some i → IsTimely i
timely_of [] all n i e = let z : ⊥ = cc e in absurd z
timely_of (x ∷ items) all zero i e = let same : x ≡ i = cc e in subst IsTimely same (All-head IsTimely x items all)
timely_of (x ∷ items) all (suc n) i e = timely_of items (All-tail IsTimely x items all) n i e

timely_at : (items : List Item) → All IsTimely items → (n : ℕ) (i : Item) → item_at items n ≡ Some i → IsTimely i
timely_at items all zero i e = let z : ⊥ = cc e in absurd z
timely_at items all (suc n) i e = timely_of items all n i e

-- where the times of the inputs are within their limits, so is that of each item on an edge
pub timely_on : (plan : PlanView) (inputs : List Input) → IsTrioPlan plan → AreTimely inputs → (e : EdgeId) (n : ℕ) (i : Item) → item_at (items_on plan inputs e) n ≡ Some i → IsTimely i
timely_on plan inputs is times e n i at = timely_at (items_on plan inputs e) ((times_stay plan inputs is.within times).edges e.stage e.from e.to) n i at

some_target : (next : Option Stage) → HasParts next → 1 ≤ targets_of next
some_target None some = omega arith
some_target (Some next) some = some

module _ (plan : PlanView) (inputs : List Input) (is : IsTrioPlan plan) (role : TrioRole) (here : IsOfPlan plan role) where
  -- it takes from the nodes of the stage before
  source_there : (from : TrioNode) (e : EdgeId) → HasNode (trio_flow plan inputs) from → IsProducer (trio_flow plan inputs) e from → e.stage + 1 ≡ role.stage → e.from < role.sources
  unfolding flow_of
  source_there node.Ingress e there makes next =
      let some = (places.place_sound plan is.within (partition_of role) role.task here.place).some in
      let first = makes.1 in
      subst (λ n. e.from < n) (sym here.sources) (omega (arith, some, first))
  source_there (node.Replica s p c) e there makes next =
      let stage : s + 1 ≡ role.stage = ap (λ n. n + 1) (sym makes.1) ∙ next in
      let part : p < sources_of plan role.stage = subst (λ n. p < sources_of plan n) stage there.0.part in
      subst (λ n. n < role.sources) (sym makes.2) (subst (λ n. p < n) (sym here.sources) part)
  source_there (node.Control s p) e there makes next = absurd makes
  source_there node.Egress e there makes next = absurd makes

  -- it is acknowledged by the nodes of the next stage
  target_there : (from : TrioNode) (e : EdgeId) → HasNode (trio_flow plan inputs) from → Acknowledges (trio_flow plan inputs) e from → e.stage ≡ role.stage → e.to < targets_of role.task.next
  unfolding flow_of
  target_there (node.Control s p) e there tells same =
      let next : s + 1 - 1 ≡ role.stage + 1 = let stage = tells.0 in omega (arith, stage, same) in
      let part : p < parts_of plan (role.stage + 1) = subst (λ n. p < parts_of plan n) next there.part in
      subst (λ n. n < targets_of role.task.next) (sym tells.1) (subst (λ n. p < n) (places.targets_are plan (partition_of role) role.task here.place) part)
  target_there node.Egress e there tells same =
      let some = some_target role.task.next (places.place_sound plan is.within (partition_of role) role.task here.place).parts in
      let only = tells.1 in omega (arith, some, only)
  target_there node.Ingress e there tells same = absurd tells
  target_there (node.Replica s p c) e there tells same = absurd tells

  replica_admits : AreTimely inputs → (from : TrioNode) (b : TrioBody) → IsCarried (trio_flow plan inputs) from (view.node_of role) (message_of b) → HasItem plan inputs b → Fits b → IsAdmitted role b
  replica_admits times from (body.Tuple e n i) h item fits =
      ((h.carries.1.0, h.carries.1.1, source_there from e h.sender h.carries.0 h.carries.1.0), timely_on plan inputs is times e n i item)
  replica_admits times from (body.Ack e k) h item fits = ((h.carries.1.1, h.carries.1.2, target_there from e h.sender h.carries.0 h.carries.1.1), fits)
  replica_admits times from (body.Lead t) h item fits = tt
  replica_admits times from (body.Report e k) h item fits = absurd h.carries.1
  replica_admits times node.Ingress body.Down h item fits = absurd h.carries
  replica_admits times (node.Replica s p c) body.Down h item fits = absurd h.carries
  replica_admits times (node.Control s p) body.Down h item fits = absurd h.carries
  replica_admits times node.Egress body.Down h item fits = absurd h.carries

pub replica_takes : (r : ReplicaView) (from : TrioNode) (b : TrioBody) → MayBeAsked (task.Take from b) (member.Replica r) → Fits b → IsAdmitted r.role b
replica_takes r from b h fits =
    replica_admits h.plan h.inputs h.asked.plan_is r.role h.asked.stands.of_plan h.asked.times from b (carried from b (member.Replica r) h) h.asked.act.2.item fits

next_timely : (plan : PlanView) (inputs : List Input) → IsTrioPlan plan → AreTimely inputs → (n : TrioNode) (q : ℕ) (i : Item) (mark : Option ℕ) → IsNextAt plan inputs n q i mark → IsTimely i
next_timely plan inputs is times n q i None next = absurd next
next_timely plan inputs is times n q i (Some mark) next = timely_on plan inputs is times (in_edge (merges_at plan inputs n) q) (mark + 1) i next

pub replica_pulls : (r : ReplicaView) (q : ℕ) (i : Item) → MayBeAsked (task.Pull q i) (member.Replica r) → IsTimely i
replica_pulls r q i h = next_timely h.plan h.inputs h.asked.plan_is h.asked.times (view.node_of r.role) q i (mark_of q (view.node_of r.role) h.numbers) h.asked.act.1
