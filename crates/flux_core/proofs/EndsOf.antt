-- The two ends of a pull, of a core.
use Rattle.std.proofs.Common.{◌≡◌, ◌∙◌, ◌⊎◌, inl, inr, ◌<◌, ◌≤◌, ◌+◌, ℕ, zero, suc, true, List, [], ◌∷◌, Option, None, Some, Ok, Err, Result, IfOk, IfErr, length, refl, sym, ap, subst, arith, slice_get, unwrap_or}
use Rattle.std.specs.List.{All}
use Rattle.std.proofs.lemmas.List.Elements.{All-head, All-tail}
use Rattle.std.specs.Option.{option_map}
use Rattle.tuple_edge.specs.Node.{part_of}
use Rattle.tuple_edge.specs.declared.event.Event.TheVariants as event
use Rattle.tuple_edge.specs.declared.item.Item.{Item}
use Rattle.tuple_edge.specs.declared.node.NodeId.{NodeId}
use Rattle.tuple_edge.specs.declared.node.NodeId.TheVariants as node
use Rattle.tuple_edge.specs.declared.node.Which.{Which}
use Rattle.flux_consumer.specs.ConsumerView.{ConsumerView}
use Rattle.flux_producer.specs.OutEdge.{unused}
use Rattle.flux_producer.specs.ProducerView.{ProducerView, buffer_at, contents_of, edge_at, without_room}
use Rattle.ingress_egress.specs.IngressView.{IngressView, contents_in, new_producer, producer_at}
use Rattle.plan_reader.specs.Nodes.{has_edge}
use Rattle.ack_buffer.specs.Buffer.{item_at}
use Rattle.merge_order.specs.Edges.{item_at as edge_item_at}
use Rattle.merge_order.specs.MergeView.{mark_of}
use Rattle.pair_machine.specs.Links.{HasEdge, HasNode}
use Rattle.pair_machine.specs.Counts.{items_on}
use Rattle.pair_machine.specs.Machine.{State, act_of, mark_of as mark_of_node, source_pulled}
use Rattle.pair_machine.specs.Numbers.{in_edge}
use Rattle.pair_machine.proofs.EdgeLaws.{times_stay}
use Rattle.replica_node.specs.Phases.{running_in}
use Rattle.replica_node.specs.Rules as rules
use Rattle.replica_node.specs.declared.phase.Phase.{Phase}
use Rattle.replica_node.specs.declared.phase.Phase.TheVariants as phase
use Rattle.stream_ops.specs.Times.{IsTimely}
use Rattle.flux_core.specs.Acts.{IsNextAt, IsTimelyTask, merges_at}
use Rattle.plan_nodes.specs.States.{contents_of as node_contents}
use Rattle.plan_nodes.specs.declared.state.NodeState.{NodeState}
use Rattle.plan_nodes.specs.declared.state.NodeState.TheVariants as state
use Rattle.flux_core.specs.CoreView.{CoreView, flow_in, inputs_of, station}
use Rattle.flux_core.specs.Ends.{IsNextSource, IsNextSourceIn, IsSourceOf, consumer_in, producer_in}
use Rattle.flux_core.specs.Pulls.{IsAhead, IsNoPull, IsPullOf}
use Rattle.flux_core.specs.Refusals.{IsRefusal}
use Rattle.flux_core.specs.Stands.{ContentStands, IsCore, StandsFor}
use Rattle.flux_core.specs.Steps.{IsTaskOf}
use Rattle.flux_core.specs.declared.asked.Asked.{Asked}
use Rattle.flux_core.specs.declared.asked.Asked.TheVariants as asked
use Rattle.flux_core.specs.declared.error.ApplyError.{ApplyError}
use Rattle.flux_core.specs.declared.error.ApplyError.TheVariants as error
use Rattle.flux_core.proofs.Done.{some_state}
use Rattle.flux_core.proofs.ByName.{ingress_there}
use Rattle.flux_core.proofs.Lists.{get_or-map, length-map-of}
use Rattle.flux_core.proofs.Pulling.{pull_asked, pull_refused, source_of}
use Rattle.flux_core.proofs.There.{there}

-- ---- the room of edges left aside

edge_contents : (p : ProducerView) (t : ℕ) → edge_at (contents_of p) t ≡ without_room (edge_at p t)
edge_contents p t = get_or-map without_room p.edges t unused refl

low_contents : (p : ProducerView) (t : ℕ) → (buffer_at (contents_of p) t).low ≡ (buffer_at p t).low
low_contents p t = ap (λ e. e.buffer.low) (edge_contents p t)

produced_contents : (p : ProducerView) (t : ℕ) → (buffer_at (contents_of p) t).produced ≡ (buffer_at p t).produced
produced_contents p t = ap (λ e. e.buffer.produced) (edge_contents p t)

pub pull_contents : (o : Option ProducerView) (t : ℕ) (c : Option ConsumerView) (q : ℕ) (k : Asked) → IsPullOf o t c q k → IsPullOf (option_map contents_of o) t c q k
pull_contents None t c q k h = absurd h
pull_contents (Some p) t None q k h = absurd h
pull_contents (Some p) t (Some c) q (asked.Pull e i) h = (
  h.0,
  subst (λ n. t < n) (sym (length-map-of without_room p.edges)) h.1,
  h.2,
  record {
    low = subst (λ n. n ≤ mark_of c.merge q) (sym (low_contents p t)) h.3.low;
    produced = subst (λ n. mark_of c.merge q < n) (sym (produced_contents p t)) h.3.produced;
    item = ap (λ b. item_at b.buffer (mark_of c.merge q + 1)) (edge_contents p t) ∙ h.3.item;
  },
)
pull_contents (Some p) t (Some c) q (asked.Task k) h = absurd h

pub no_pull_contents : (o : Option ProducerView) (t : ℕ) (c : Option ConsumerView) (q : ℕ) (x : ApplyError) → IsNoPull o t c q x → IsNoPull (option_map contents_of o) t c q x
no_pull_contents None t c q error.NotRunning h = tt
no_pull_contents (Some p) t None q error.NotRunning h = tt
no_pull_contents (Some p) t (Some c) q error.NotRunning h = absurd h
no_pull_contents (Some p) t (Some c) q (error.NotHeld low mark produced) h =
    (subst (λ n. t < n) (sym (length-map-of without_room p.edges)) h.0, h.1, h.2 ∙ sym (low_contents p t), h.3, h.4 ∙ sym (produced_contents p t), h.5)
no_pull_contents None t c q (error.NotHeld low mark produced) h = absurd h
no_pull_contents (Some p) t None q (error.NotHeld low mark produced) h = absurd h
no_pull_contents None t c q error.OutOfMemory h = tt
no_pull_contents (Some p) t None q error.OutOfMemory h = tt
no_pull_contents (Some p) t (Some c) q error.OutOfMemory h = tt
no_pull_contents None t c q (error.NotSent l k n) h = absurd h
no_pull_contents (Some p) t None q (error.NotSent l k n) h = absurd h
no_pull_contents (Some p) t (Some c) q (error.NotSent l k n) h = absurd h
no_pull_contents None t c q error.NothingDue h = absurd h
no_pull_contents (Some p) t None q error.NothingDue h = absurd h
no_pull_contents (Some p) t (Some c) q error.NothingDue h = absurd h
no_pull_contents None t c q error.NoMoreRows h = absurd h
no_pull_contents (Some p) t None q error.NoMoreRows h = absurd h
no_pull_contents (Some p) t (Some c) q error.NoMoreRows h = absurd h

producer_contents : (i : IngressView) (q : ℕ) → contents_of (producer_at i q) ≡ producer_at (contents_in i) q
producer_contents i q = sym (get_or-map contents_of i.producers q (new_producer 0 0) refl)

-- the next source is the same
pub source_contents : (i : IngressView) (t : ℕ) (c : Option ConsumerView) (q : ℕ) → IsNextSource i t c q → IsNextSource (contents_in i) t c q
source_contents i t None q h = h ∙ sym (length-map-of contents_of i.producers)
source_contents i t (Some c) q (inl h) =
    let many = length-map-of contents_of i.producers in inl ((λ e. h.0 (sym many ∙ e)), h.1 ∙ sym many)
source_contents i t (Some c) q (inr h) =
    let many = length-map-of contents_of i.producers in
    let ahead : (buffer_at (producer_at (contents_in i) 0) t).produced ≡ (buffer_at (producer_at i 0) t).produced = ap (λ p. (buffer_at p t).produced) (sym (producer_contents i 0)) ∙ produced_contents (producer_at i 0) t in
    inr (record {
      two = many ∙ h.two;
      target = subst (λ n. t < n) (sym (ap (λ (p : ProducerView). length p.edges) (sym (producer_contents i 0)) ∙ length-map-of without_room (producer_at i 0).edges)) h.target;
      source = h.source;
      first = go ahead h.first;
    })
  where
    go : (buffer_at (producer_at (contents_in i) 0) t).produced ≡ (buffer_at (producer_at i 0) t).produced → ((q ≡ 0) × IsAhead (producer_at i 0) t c 0) ⊎ ((q ≡ 1) × (IsAhead (producer_at i 0) t c 0 → ⊥))
        → ((q ≡ 0) × IsAhead (producer_at (contents_in i) 0) t c 0) ⊎ ((q ≡ 1) × (IsAhead (producer_at (contents_in i) 0) t c 0 → ⊥))
    go e (inl a) = inl (a.0, subst (λ n. mark_of c.merge 0 < n) (sym e) a.1)
    go e (inr a) = inr (a.0, λ k. a.1 (subst (λ n. mark_of c.merge 0 < n) e k))

-- so it is of a node that is ingress
pub source_in_contents : (i : IngressView) (t : ℕ) (c : Option ConsumerView) (q : ℕ) (o : Option NodeState) → Some (state.Ingress (contents_in i)) ≡ o → IsNextSource i t c q → IsNextSourceIn o t c q
source_in_contents i t c q o is h = subst (λ k. IsNextSourceIn k t c q) is (source_contents i t c q h)

-- ---- what nodes give

phase_producer : (f : Phase) → option_map contents_of (option_map (λ r. r.producer) (running_in f)) ≡ option_map (λ r. r.producer) (running_in (rules.contents_in_phase f))
phase_producer (phase.Running r) = refl
phase_producer (phase.Gathering g) = refl
phase_producer (phase.Gone i) = refl

phase_consumer : (f : Phase) → option_map (λ r. r.consumer) (running_in f) ≡ option_map (λ r. r.consumer) (running_in (rules.contents_in_phase f))
phase_consumer (phase.Running r) = refl
phase_consumer (phase.Gathering g) = refl
phase_consumer (phase.Gone i) = refl

pub producer_given : (s : NodeState) (q : ℕ) → option_map contents_of (producer_in (Some s) q) ≡ producer_in (Some (node_contents s)) q
producer_given (state.Ingress i) q = ap Some (producer_contents i q)
producer_given (state.Replica v) q = phase_producer v.phase
producer_given (state.Control c) q = refl
producer_given (state.Egress e) q = refl

pub consumer_given : (s : NodeState) → consumer_in (Some s) ≡ consumer_in (Some (node_contents s))
consumer_given (state.Ingress i) = refl
consumer_given (state.Replica v) = phase_consumer v.phase
consumer_given (state.Control c) = refl
consumer_given (state.Egress e) = refl

pub mapped_twice : {X Y Z : Type 0} (g : Y → Z) (f : X → Y) (o : Option X) → option_map (λ x. g (f x)) o ≡ option_map g (option_map f o)
mapped_twice g f None = refl
mapped_twice g f (Some x) = refl

timely_get : (xs : List Item) → All IsTimely xs → (k : ℕ) (i : Item) → slice_get xs k ≡ Some i → IsTimely i
timely_get [] h k i e = let z : ⊥ = cc e in absurd z
timely_get (x ∷ xs) h zero i e = subst IsTimely (ap (λ o. unwrap_or o i) e) (All-head IsTimely x xs h)
timely_get (x ∷ xs) h (suc k) i e = timely_get xs (All-tail IsTimely x xs h) k i e

-- ---- of a core

few_next : (i : IngressView) (t q : ℕ) (o : Option ConsumerView) → IsNextSource i t o q → q < length i.producers
few_next i t q None h = omega (arith, h)
few_next i t q (Some c) (inl h) = omega (arith, h.1)
few_next i t q (Some c) (inr h) = go h.first
  where
    go : ((q ≡ 0) × IsAhead (producer_at i 0) t c 0) ⊎ ((q ≡ 1) × (IsAhead (producer_at i 0) t c 0 → ⊥)) → q < length i.producers
    go (inl a) = omega (arith, a.0, h.two)
    go (inr a) = omega (arith, a.0, h.two)

-- the source that was found is one of those that ingress has
pub few_sources : (core : CoreView) → IsCore core → (from : NodeId) → HasNode (flow_in core) from → (t q : ℕ) (o : Option ConsumerView) → IsSourceOf core from t o q
    → (i : IngressView) → (station core from).content ≡ Some (state.Ingress i) → q < length i.producers
few_sources core is from has t q o source i here =
    let s = some_state core is in
    let stood : ContentStands core.plan (inputs_of core) from (Some (state.Ingress i)) (s.0.nodes from) = subst (λ k. ContentStands core.plan (inputs_of core) from k (s.0.nodes from)) here (s.1 from has).content in
    let name : node.Ingress ≡ from = stood.0 in
    let next : IsNextSourceIn (station core node.Ingress).content t o q = subst (λ k. IsSourceOf core k t o q) (sym name) source in
    few_next i t q o (subst (λ k. IsNextSourceIn k t o q) (ap (λ k. (station core k).content) name ∙ here) next)

module _ (core : CoreView) (is : IsCore core) (from to : NodeId) (named : has_edge core.plan from to ≡ true) (q : ℕ) (op : Option ProducerView) (oc : Option ConsumerView)
    (ep : option_map contents_of op ≡ producer_in (station core from).content q) (ec : oc ≡ consumer_in (station core to).content) (source : IsSourceOf core from (part_of to) oc q) where
  is_there : HasNode (flow_in core) from × HasNode (flow_in core) to × HasEdge (flow_in core) from to
  is_there = there core.plan (inputs_of core) is.plan (event.Pull from to) named

  source_at : (s : State) → StandsFor core s → (n : NodeId) → n ≡ from → source_pulled (flow_in core) n (s.nodes n) to (s.nodes to) ≡ q
  source_at s stands node.Ingress e =
      let i = ingress_there core.plan (inputs_of core) (station core node.Ingress).content (s.nodes node.Ingress) (stands node.Ingress (tt, tt)).content in
      source_of core.plan (inputs_of core) i.0 (s.nodes node.Ingress) to (station core to).content (s.nodes to) i.2 (stands to is_there.1).content is.plan oc (sym ec) q
      (subst (λ k. IsNextSourceIn k (part_of to) oc q) i.1 (subst (λ k. IsSourceOf core k (part_of to) oc q) (sym e) source))
  source_at s stands (node.Replica st p w) e = sym (subst (λ k. IsSourceOf core k (part_of to) oc q) (sym e) source)
  source_at s stands (node.Control st p) e = sym (subst (λ k. IsSourceOf core k (part_of to) oc q) (sym e) source)
  source_at s stands node.Egress e = sym (subst (λ k. IsSourceOf core k (part_of to) oc q) (sym e) source)

  few_at : (i : IngressView) → (station core from).content ≡ Some (state.Ingress i) → q < length i.producers
  few_at = few_sources core is from is_there.0 (part_of to) q oc source

  same_at : (st p : ℕ) (w : Which) → from ≡ node.Replica st p w → q ≡ p
  same_at st p w e = subst (λ k. IsSourceOf core k (part_of to) oc q) e source

  pub pulled_found : (t : Asked) → IsPullOf op (part_of to) oc q t → IsTaskOf core (event.Pull from to) t
  pulled_found t h s stands =
      pull_asked core.plan (inputs_of core) s from to (station core from).content (station core to).content (stands from is_there.0).content (stands to is_there.1).content is_there.2 q (source_at s stands from refl) few_at same_at
      (option_map contents_of op) oc (sym ep) (sym ec) t (pull_contents op (part_of to) oc q t h)

  pub pulled_missing : (x : ApplyError) → IsNoPull op (part_of to) oc q x → (s : State) → StandsFor core s → IsRefusal (act_of (flow_in core) s (event.Pull from to)) x
  pulled_missing x h s stands =
      pull_refused core.plan (inputs_of core) s from to (station core from).content (station core to).content (stands from is_there.0).content (stands to is_there.1).content is_there.2 q (source_at s stands from refl) few_at same_at
      (option_map contents_of op) oc (sym ep) (sym ec) x (no_pull_contents op (part_of to) oc q x h)

-- the row that a pull takes has a time within the limits
pub pulled_timely : (core : CoreView) → IsCore core → (s : State) → StandsFor core s → (from to : NodeId) (t : Asked) → IsTaskOf core (event.Pull from to) t → IsTimelyTask t
pulled_timely core is s stands from to (asked.Pull q i) h =
    let z = h s stands in at (mark_of_node q to (s.nodes to)) z.2.1
  where
    at : (mark : Option ℕ) → IsNextAt core.plan (inputs_of core) to q i mark → IsTimely i
    at None h = absurd h
    at (Some mark) h =
        let e = in_edge (merges_at core.plan (inputs_of core) to) q in
        at_place (mark + 1) h
      where
        at_place : (k : ℕ) → edge_item_at (items_on core.plan (inputs_of core) (in_edge (merges_at core.plan (inputs_of core) to) q)) k ≡ Some i → IsTimely i
        at_place zero h = let z : ⊥ = cc h in absurd z
        at_place (suc k) h =
            let e = in_edge (merges_at core.plan (inputs_of core) to) q in
            timely_get (items_on core.plan (inputs_of core) e) ((times_stay core.plan (inputs_of core) is.plan is.times).edges e.stage e.from e.to) k i h
pulled_timely core is s stands from to (asked.Task t) h = tt

-- what a pull between the two ends comes to
pub record PullDone (core : CoreView) (from to : NodeId) (r : Result Asked ApplyError) : Type 0 where
  pub asked : IfOk r (IsTaskOf core (event.Pull from to))
  pub timely : IfOk r IsTimelyTask
  pub refused : IfErr r (λ x. (s : State) → StandsFor core s → IsRefusal (act_of (flow_in core) s (event.Pull from to)) x)

pub pull_done : (core : CoreView) → IsCore core → (from to : NodeId) → has_edge core.plan from to ≡ true → (q : ℕ) (op : Option ProducerView) (oc : Option ConsumerView)
    → option_map contents_of op ≡ producer_in (station core from).content q → oc ≡ consumer_in (station core to).content → (target : ℕ) → target ≡ part_of to → IsSourceOf core from target oc q
    → (r : Result Asked ApplyError) → IfOk r (IsPullOf op target oc q) → IfErr r (IsNoPull op target oc q) → PullDone core from to r
pull_done core is from to named q op oc ep ec target at source (Ok t) found denied =
    let s = some_state core is in
    let z = pulled_found core is from to named q op oc ep ec (subst (λ k. IsSourceOf core from k oc q) at source) t (subst (λ k. IsPullOf op k oc q t) at found) in
    record { asked = z; timely = pulled_timely core is s.0 s.1 from to t z; refused = tt }
pull_done core is from to named q op oc ep ec target at source (Err x) found denied =
    let z = pulled_missing core is from to named q op oc ep ec (subst (λ k. IsSourceOf core from k oc q) at source) x (subst (λ k. IsNoPull op k oc q x) at denied) in
    record { asked = tt; timely = tt; refused = z }
