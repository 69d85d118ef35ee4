-- The machine's nodes are those of the plan, and its messages stand on the plan's links.
use Rattle.std.proofs.Common.{◌≡◌, ◌<◌, ◌≤◌, ◌⊎◌, inl, inr, ℕ, Bool, true, false, List, ◌&&◌, refl, sym, subst, arith, length}
use Rattle.std.specs.Prelude.{◌==◌, ◌||◌, ◌+◌, ◌-◌, nat_le, nat_lt}
use Rattle.std.proofs.lemmas.Bool.{eq-eqb, eqb-true, le-leb, leb-true, lt-ltb, ltb-true}
use Rattle.tuple_edge.specs.Input.{Input}
use Rattle.tuple_edge.specs.Node.{part_of}
use Rattle.tuple_edge.specs.declared.node.EdgeId.{EdgeId}
use Rattle.tuple_edge.specs.declared.node.LinkId.{LinkId}
use Rattle.tuple_edge.specs.declared.node.NodeId.{NodeId}
use Rattle.tuple_edge.specs.declared.node.NodeId.TheVariants as node
use Rattle.tuple_edge.specs.declared.node.Which.{Which}
use Rattle.tuple_edge.specs.declared.node.Which.TheVariants.{A, B}
use Rattle.plan_reader.specs.Nodes.{acknowledges, are_neighbours, are_partners, carries_acknowledgements, carries_any, carries_items, carries_orders, carries_reports, carries_state, carries_wants, has_node, has_pair, is_consumer, is_producer, is_replica, parts_of, stage_of_node}
use Rattle.plan_reader.specs.PlanView.{IsPlan, PlanView}
use Rattle.pair_machine.specs.Counts.{flow_of}
use Rattle.pair_machine.specs.Links.{Acknowledges, Carries, HasNode, IsAcross, IsConsumer, IsProducer, IsUp, Wants}
use Rattle.pair_machine.specs.Messages.{Message, Tuple, Ack, Report, Lead, Serve, Begin, Chunk, ChunkEnd, Caught, Want, Down, Stop, AskStop, AskBack}
use Rattle.pair_machine.specs.Numbers.{other}
use Rattle.pair_machine.specs.PlanNodes.{LinksAreThePlans, LinksCarryMessages, NodesAreThePlans}
use Rattle.pair_machine.proofs.Tests.{both}

and_true : (a b : Bool) → a ≡ true → b ≡ true → (a && b) ≡ true
and_true true b x y = y
and_true false b x y = x

or_left : (a b : Bool) → a ≡ true → (a || b) ≡ true
or_left true b x = refl
or_left false b x = let z : ⊥ = cc x in absurd z

or_right : (a b : Bool) → b ≡ true → (a || b) ≡ true
or_right true b x = refl
or_right false b x = x

-- ---- nodes

module _ (plan : PlanView) (s p : ℕ) where
  pair_there : has_pair plan s p ≡ true → ((1 ≤ s) × (s ≤ length plan.stages)) × (p < parts_of plan (s + 1 - 1))
  pair_there e =
      let z = both (nat_le 1 s && nat_le s (length plan.stages)) (nat_lt p (parts_of plan s)) e in
      let y = both (nat_le 1 s) (nat_le s (length plan.stages)) z.0 in
      let same : s ≡ s + 1 - 1 = omega arith in
      ((leb-true 1 s y.0, leb-true s (length plan.stages) y.1), subst (λ n. p < parts_of plan n) same (ltb-true p (parts_of plan s) z.1))

  pair_named : ((1 ≤ s) × (s ≤ length plan.stages)) × (p < parts_of plan (s + 1 - 1)) → has_pair plan s p ≡ true
  pair_named h =
      let same : s + 1 - 1 ≡ s = omega arith in
      and_true (nat_le 1 s && nat_le s (length plan.stages)) (nat_lt p (parts_of plan s)) (and_true (nat_le 1 s) (nat_le s (length plan.stages)) (le-leb 1 s h.0.0) (le-leb s (length plan.stages) h.0.1))
      (lt-ltb p (parts_of plan s) (subst (λ n. p < parts_of plan n) same h.1))

pub nodes_named : NodesAreThePlans
unfolding flow_of
nodes_named plan inputs node.Ingress = record { there = λ e. (tt, tt); named = λ h. refl }
nodes_named plan inputs (node.Replica s p w) = record { there = pair_there plan s p; named = pair_named plan s p }
nodes_named plan inputs (node.Control s p) = record { there = pair_there plan s p; named = pair_named plan s p }
nodes_named plan inputs node.Egress = record { there = λ e. (tt, tt); named = λ h. refl }

-- ---- links

module _ (plan : PlanView) (inputs : List Input) where
  produces : (e : EdgeId) (n : NodeId) → IsProducer (flow_of plan inputs) e n → (is_producer n ≡ true) × (stage_of_node plan n ≡ e.stage)
  produces e node.Ingress h = (refl, sym h.0)
  produces e (node.Replica s p w) h = (refl, sym h.1)
  produces e (node.Control s p) h = absurd h
  produces e node.Egress h = absurd h

  consumes : (e : EdgeId) (n : NodeId) → IsConsumer (flow_of plan inputs) e n → (is_consumer n ≡ true) × (stage_of_node plan n ≡ e.stage + 1)
  unfolding flow_of
  consumes e node.Ingress h = absurd h
  consumes e (node.Replica s p w) h = (refl, sym h.0)
  consumes e (node.Control s p) h = absurd h
  consumes e node.Egress h = (refl, omega (arith, h.0))

  acks : (e : EdgeId) (n : NodeId) → Acknowledges (flow_of plan inputs) e n → (acknowledges n ≡ true) × (stage_of_node plan n ≡ e.stage + 1)
  unfolding flow_of
  acks e node.Ingress h = absurd h
  acks e (node.Replica s p w) h = absurd h
  acks e (node.Control s p) h = (refl, sym h.0)
  acks e node.Egress h = (refl, omega (arith, h.0))

  wants : (e : EdgeId) (n : NodeId) → Wants e n → (is_replica n ≡ true) × (stage_of_node plan n ≡ e.stage + 1)
  wants e node.Ingress h = absurd h
  wants e (node.Replica s p w) h = (refl, sym h.0)
  wants e (node.Control s p) h = absurd h
  wants e node.Egress h = absurd h

  next_to : (e : EdgeId) (before after : NodeId) → stage_of_node plan before ≡ e.stage → stage_of_node plan after ≡ e.stage + 1 → are_neighbours plan before after ≡ true
  next_to e before after x y = eq-eqb (stage_of_node plan after) (stage_of_node plan before + 1) (omega arith)

  reports_up : (from to : NodeId) → IsUp from to → carries_reports from to ≡ true
  reports_up node.Ingress to h = absurd h
  reports_up (node.Control s p) to h = absurd h
  reports_up node.Egress to h = absurd h
  reports_up (node.Replica s p w) node.Ingress h = absurd h
  reports_up (node.Replica s p w) (node.Replica t q v) h = absurd h
  reports_up (node.Replica s p w) node.Egress h = absurd h
  reports_up (node.Replica s p w) (node.Control t q) h = and_true (s == t) (p == q) (eq-eqb s t h.0) (eq-eqb p q h.1)

  orders_down : (from to : NodeId) → IsUp to from → carries_orders from to ≡ true
  orders_down from node.Ingress h = absurd h
  orders_down from (node.Control s p) h = absurd h
  orders_down from node.Egress h = absurd h
  orders_down node.Ingress (node.Replica s p w) h = absurd h
  orders_down (node.Replica t q v) (node.Replica s p w) h = absurd h
  orders_down node.Egress (node.Replica s p w) h = absurd h
  orders_down (node.Control t q) (node.Replica s p w) h = and_true (t == s) (q == p) (eq-eqb t s (sym h.0)) (eq-eqb q p (sym h.1))

  partners : (w v : Which) → w ≡ other v → are_partners w v ≡ true
  partners w v e = subst (λ k. are_partners k v ≡ true) (sym e) (go v)
    where
      go : (v : Which) → are_partners (other v) v ≡ true
      go A = refl
      go B = refl

  state_across : (from to : NodeId) → IsAcross from to → carries_state from to ≡ true
  state_across node.Ingress to h = absurd h
  state_across (node.Control s p) to h = absurd h
  state_across node.Egress to h = absurd h
  state_across (node.Replica s p w) node.Ingress h = absurd h
  state_across (node.Replica s p w) (node.Control t q) h = absurd h
  state_across (node.Replica s p w) node.Egress h = absurd h
  state_across (node.Replica s p w) (node.Replica t q v) h = and_true ((s == t) && (p == q)) (are_partners w v) (and_true (s == t) (p == q) (eq-eqb s t h.0) (eq-eqb p q h.1)) (partners w v h.2)

  module _ (from to : NodeId) where
    abbrev any : Bool
    any = carries_any plan from to

    by_items : carries_items plan from to ≡ true → any ≡ true
    by_items e = or_left _ _ (or_left _ _ (or_left _ _ (or_left _ _ (or_left _ (carries_acknowledgements plan from to) e))))

    by_acks : carries_acknowledgements plan from to ≡ true → any ≡ true
    by_acks e = or_left _ _ (or_left _ _ (or_left _ _ (or_left _ _ (or_right (carries_items plan from to) _ e))))

    by_wants : carries_wants plan from to ≡ true → any ≡ true
    by_wants e = or_left _ _ (or_left _ _ (or_left _ _ (or_right _ (carries_wants plan from to) e)))

    by_reports : carries_reports from to ≡ true → any ≡ true
    by_reports e = or_left _ _ (or_left _ _ (or_right _ (carries_reports from to) e))

    by_orders : carries_orders from to ≡ true → any ≡ true
    by_orders e = or_left _ _ (or_right _ (carries_orders from to) e)

    by_state : carries_state from to ≡ true → any ≡ true
    by_state e = or_right _ (carries_state from to) e

  carried_any : (l : LinkId) (m : Message) → Carries (flow_of plan inputs) l m → carries_any plan l.from l.to ≡ true
  carried_any l (Tuple e k) h =
      let x = produces e l.from h.0 in let y = consumes e l.to h.1 in
      by_items l.from l.to (and_true (is_producer l.from && is_consumer l.to) _ (and_true (is_producer l.from) (is_consumer l.to) x.0 y.0) (next_to e l.from l.to x.1 y.1))
  carried_any l (Ack e k) h =
      let x = acks e l.from h.0 in let y = produces e l.to h.1 in
      by_acks l.from l.to (and_true (acknowledges l.from && is_producer l.to) _ (and_true (acknowledges l.from) (is_producer l.to) x.0 y.0) (next_to e l.to l.from y.1 x.1))
  carried_any l (Want e k) h =
      let x = wants e l.from h.0 in let y = produces e l.to h.1 in
      by_wants l.from l.to (and_true (is_replica l.from && is_producer l.to) _ (and_true (is_replica l.from) (is_producer l.to) x.0 y.0) (next_to e l.to l.from y.1 x.1))
  carried_any l (Report i e k) h = by_reports l.from l.to (reports_up l.from l.to h.0)
  carried_any l (Lead i t) h = by_orders l.from l.to (orders_down l.from l.to h)
  carried_any l (Serve i t) h = by_orders l.from l.to (orders_down l.from l.to h)
  carried_any l (Begin i) h = by_orders l.from l.to (orders_down l.from l.to h)
  carried_any l (Stop i) h = by_orders l.from l.to (orders_down l.from l.to h)
  carried_any l (Chunk i k m) h = by_state l.from l.to (state_across l.from l.to h)
  carried_any l (ChunkEnd i k m) h = by_state l.from l.to (state_across l.from l.to h)
  carried_any l (Caught i) h = by_reports l.from l.to (reports_up l.from l.to h)
  carried_any l (Down i) h = by_reports l.from l.to (reports_up l.from l.to h)
  carried_any l (AskStop i) h = by_reports l.from l.to (reports_up l.from l.to h)
  carried_any l AskBack h = by_reports l.from l.to (reports_up l.from l.to h)

pub links_named : LinksAreThePlans
links_named plan inputs l m from to h =
    and_true (has_node plan l.from && has_node plan l.to) _ (and_true (has_node plan l.from) (has_node plan l.to) ((nodes_named plan inputs l.from).named from) ((nodes_named plan inputs l.to).named to)) (carried_any plan inputs l m h)

-- ---- each link carries something

either : (a b : Bool) → (a || b) ≡ true → (a ≡ true) ⊎ (b ≡ true)
either true b e = inl refl
either false b e = inr e

module _ (plan : PlanView) (inputs : List Input) (is_plan : IsPlan plan) where
  some_source : 0 < (flow_of plan inputs).sources 1
  unfolding flow_of
  some_source = is_plan.version_low

  -- an edge from a node, and one to a node, of a stage
  edge_from : (n : NodeId) → HasNode (flow_of plan inputs) n → is_producer n ≡ true → (t : ℕ) → IsProducer (flow_of plan inputs) (record { stage = stage_of_node plan n; from = part_of n; to = t }) n
  edge_from node.Ingress h e t = (refl, some_source)
  edge_from (node.Replica s p w) h e t = (h.0.0, refl, refl)
  edge_from (node.Control s p) h e t = let z : ⊥ = cc e in absurd z
  edge_from node.Egress h e t = let z : ⊥ = cc e in absurd z

  edge_into : (n : NodeId) → is_consumer n ≡ true → (s q : ℕ) → stage_of_node plan n ≡ s + 1 → IsConsumer (flow_of plan inputs) (record { stage = s; from = q; to = part_of n }) n
  unfolding flow_of
  edge_into node.Ingress e s q at = let z : ⊥ = cc e in absurd z
  edge_into (node.Replica t p w) e s q at = (sym at, refl)
  edge_into (node.Control t p) e s q at = let z : ⊥ = cc e in absurd z
  edge_into node.Egress e s q at = (omega (arith, at), refl)

  edge_acked : (n : NodeId) → acknowledges n ≡ true → (s q : ℕ) → stage_of_node plan n ≡ s + 1 → Acknowledges (flow_of plan inputs) (record { stage = s; from = q; to = part_of n }) n
  unfolding flow_of
  edge_acked node.Ingress e s q at = let z : ⊥ = cc e in absurd z
  edge_acked (node.Replica t p w) e s q at = let z : ⊥ = cc e in absurd z
  edge_acked (node.Control t p) e s q at = (sym at, refl)
  edge_acked node.Egress e s q at = (omega (arith, at), refl)

  edge_wanted : (n : NodeId) → is_replica n ≡ true → (s q : ℕ) → stage_of_node plan n ≡ s + 1 → Wants (record { stage = s; from = q; to = part_of n }) n
  edge_wanted node.Ingress e s q at = let z : ⊥ = cc e in absurd z
  edge_wanted (node.Replica t p w) e s q at = (sym at, refl)
  edge_wanted (node.Control t p) e s q at = let z : ⊥ = cc e in absurd z
  edge_wanted node.Egress e s q at = let z : ⊥ = cc e in absurd z

  up_reports : (from to : NodeId) → carries_reports from to ≡ true → IsUp from to
  up_reports node.Ingress to e = let z : ⊥ = cc e in absurd z
  up_reports (node.Control s p) to e = let z : ⊥ = cc e in absurd z
  up_reports node.Egress to e = let z : ⊥ = cc e in absurd z
  up_reports (node.Replica s p w) node.Ingress e = let z : ⊥ = cc e in absurd z
  up_reports (node.Replica s p w) (node.Replica t q v) e = let z : ⊥ = cc e in absurd z
  up_reports (node.Replica s p w) node.Egress e = let z : ⊥ = cc e in absurd z
  up_reports (node.Replica s p w) (node.Control t q) e = let z = both (s == t) (p == q) e in (eqb-true s t z.0, eqb-true p q z.1)

  down_orders : (from to : NodeId) → carries_orders from to ≡ true → IsUp to from
  down_orders node.Ingress to e = let z : ⊥ = cc e in absurd z
  down_orders (node.Replica s p w) to e = let z : ⊥ = cc e in absurd z
  down_orders node.Egress to e = let z : ⊥ = cc e in absurd z
  down_orders (node.Control s p) node.Ingress e = let z : ⊥ = cc e in absurd z
  down_orders (node.Control s p) (node.Control t q) e = let z : ⊥ = cc e in absurd z
  down_orders (node.Control s p) node.Egress e = let z : ⊥ = cc e in absurd z
  down_orders (node.Control s p) (node.Replica t q w) e = let z = both (s == t) (p == q) e in (sym (eqb-true s t z.0), sym (eqb-true p q z.1))

  partners_are : (w v : Which) → are_partners w v ≡ true → w ≡ other v
  partners_are A A e = let z : ⊥ = cc e in absurd z
  partners_are A B e = refl
  partners_are B A e = refl
  partners_are B B e = let z : ⊥ = cc e in absurd z

  across_state : (from to : NodeId) → carries_state from to ≡ true → IsAcross from to
  across_state node.Ingress to e = let z : ⊥ = cc e in absurd z
  across_state (node.Control s p) to e = let z : ⊥ = cc e in absurd z
  across_state node.Egress to e = let z : ⊥ = cc e in absurd z
  across_state (node.Replica s p w) node.Ingress e = let z : ⊥ = cc e in absurd z
  across_state (node.Replica s p w) (node.Control t q) e = let z : ⊥ = cc e in absurd z
  across_state (node.Replica s p w) node.Egress e = let z : ⊥ = cc e in absurd z
  across_state (node.Replica s p w) (node.Replica t q v) e =
      let z = both ((s == t) && (p == q)) (are_partners w v) e in
      let y = both (s == t) (p == q) z.0 in
      (eqb-true s t y.0, eqb-true p q y.1, partners_are w v z.1)

  module _ (l : LinkId) (from : HasNode (flow_of plan inputs) l.from) (to : HasNode (flow_of plan inputs) l.to) where
    abbrev Carried : Type 0
    Carried = (m : Message) × Carries (flow_of plan inputs) l m

    with_items : carries_items plan l.from l.to ≡ true → Carried
    with_items e =
        let z = both (is_producer l.from && is_consumer l.to) (are_neighbours plan l.from l.to) e in
        let y = both (is_producer l.from) (is_consumer l.to) z.0 in
        let next = eqb-true (stage_of_node plan l.to) (stage_of_node plan l.from + 1) z.1 in
        (Tuple (record { stage = stage_of_node plan l.from; from = part_of l.from; to = part_of l.to }) 1, (edge_from l.from from y.0 (part_of l.to), edge_into l.to y.1 (stage_of_node plan l.from) (part_of l.from) next))

    with_acks : carries_acknowledgements plan l.from l.to ≡ true → Carried
    with_acks e =
        let z = both (acknowledges l.from && is_producer l.to) (are_neighbours plan l.to l.from) e in
        let y = both (acknowledges l.from) (is_producer l.to) z.0 in
        let next = eqb-true (stage_of_node plan l.from) (stage_of_node plan l.to + 1) z.1 in
        (Ack (record { stage = stage_of_node plan l.to; from = part_of l.to; to = part_of l.from }) 1, (edge_acked l.from y.0 (stage_of_node plan l.to) (part_of l.to) next, edge_from l.to to y.1 (part_of l.from)))

    with_wants : carries_wants plan l.from l.to ≡ true → Carried
    with_wants e =
        let z = both (is_replica l.from && is_producer l.to) (are_neighbours plan l.to l.from) e in
        let y = both (is_replica l.from) (is_producer l.to) z.0 in
        let next = eqb-true (stage_of_node plan l.from) (stage_of_node plan l.to + 1) z.1 in
        (Want (record { stage = stage_of_node plan l.to; from = part_of l.to; to = part_of l.from }) 1, (edge_wanted l.from y.0 (stage_of_node plan l.to) (part_of l.to) next, edge_from l.to to y.1 (part_of l.from)))

    with_any : carries_any plan l.from l.to ≡ true → Carried
    with_any e = state_last (either _ (carries_state l.from l.to) e)
      where
        items_or_acks : (carries_items plan l.from l.to ≡ true) ⊎ (carries_acknowledgements plan l.from l.to ≡ true) → Carried
        items_or_acks (inl e) = with_items e
        items_or_acks (inr e) = with_acks e

        or_wants : ((carries_items plan l.from l.to || carries_acknowledgements plan l.from l.to) ≡ true) ⊎ (carries_wants plan l.from l.to ≡ true) → Carried
        or_wants (inl e) = items_or_acks (either (carries_items plan l.from l.to) (carries_acknowledgements plan l.from l.to) e)
        or_wants (inr e) = with_wants e

        or_reports : ((carries_items plan l.from l.to || carries_acknowledgements plan l.from l.to || carries_wants plan l.from l.to) ≡ true) ⊎ (carries_reports l.from l.to ≡ true) → Carried
        or_reports (inl e) = or_wants (either (carries_items plan l.from l.to || carries_acknowledgements plan l.from l.to) (carries_wants plan l.from l.to) e)
        or_reports (inr e) = (AskBack, up_reports l.from l.to e)

        or_orders : ((carries_items plan l.from l.to || carries_acknowledgements plan l.from l.to || carries_wants plan l.from l.to || carries_reports l.from l.to) ≡ true) ⊎ (carries_orders l.from l.to ≡ true) → Carried
        or_orders (inl e) = or_reports (either (carries_items plan l.from l.to || carries_acknowledgements plan l.from l.to || carries_wants plan l.from l.to) (carries_reports l.from l.to) e)
        or_orders (inr e) = (Begin 1, down_orders l.from l.to e)

        state_last : ((carries_items plan l.from l.to || carries_acknowledgements plan l.from l.to || carries_wants plan l.from l.to || carries_reports l.from l.to || carries_orders l.from l.to) ≡ true) ⊎ (carries_state l.from l.to ≡ true) → Carried
        state_last (inl e) = or_orders (either (carries_items plan l.from l.to || carries_acknowledgements plan l.from l.to || carries_wants plan l.from l.to || carries_reports l.from l.to) (carries_orders l.from l.to) e)
        state_last (inr e) = (Chunk 1 1 (record { marks = λ q. 0; count = 0; lows = λ t. 0 }), across_state l.from l.to e)

pub links_carry : LinksCarryMessages
links_carry plan inputs h l e =
    let z = both (has_node plan l.from && has_node plan l.to) (carries_any plan l.from l.to) e in
    let y = both (has_node plan l.from) (has_node plan l.to) z.0 in
    with_any plan inputs h l ((nodes_named plan inputs l.from).there y.0) ((nodes_named plan inputs l.to).there y.1) z.1
