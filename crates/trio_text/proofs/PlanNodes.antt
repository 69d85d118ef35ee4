-- What a plan has for groups is what their machine knows.
use Rattle.std.proofs.Common.{◌≡◌, ◌⊎◌, inl, inr, ℕ, Bool, true, false, List, ◌&&◌, refl, sym, arith}
use Rattle.std.specs.Prelude.{◌==◌, ◌||◌, ◌+◌, nat_lt}
use Rattle.std.proofs.lemmas.Bool.{eq-eqb, eqb-true, lt-ltb, ltb-true}
use Rattle.tuple_edge.specs.Input.{Input}
use Rattle.tuple_edge.specs.declared.node.EdgeId.{EdgeId}
use Rattle.tuple_edge.specs.declared.node.NodeId.TheVariants as pair
use Rattle.tuple_edge.specs.declared.node.Which.TheVariants as which
use Rattle.plan_reader.specs.Nodes.{acknowledges, are_neighbours, carries_acknowledgements, carries_items, carries_orders, carries_reports, has_node, is_consumer, is_producer, stage_of_node}
use Rattle.plan_reader.specs.PlanView.{PlanView}
use Rattle.pair_machine.specs.Counts.{flow_of}
use Rattle.pair_machine.proofs.PlanNodes.{nodes_named}
use Rattle.pair_machine.proofs.Tests.{both}
use Rattle.trio_machine.specs.Flow.{trio_flow}
use Rattle.trio_machine.specs.Links.{Acknowledges, Carries, HasEdge, HasNode, IsConsumer, IsProducer, IsUp}
use Rattle.trio_machine.specs.Messages.{Message, Tuple, Ack, Report, Lead, Down}
use Rattle.trio_machine.specs.Numbers.{group_size, part_of}
use Rattle.trio_machine.specs.declared.event.TrioEvent.TheVariants as event
use Rattle.trio_machine.specs.declared.node.TrioNode.{TrioNode}
use Rattle.trio_machine.specs.declared.node.TrioNode.TheVariants as node
use Rattle.trio_text.specs.Laws.{LinksAreThePlans, LinksCarryMessages, NamedEventsAreThere, NodesAreThePlans}
use Rattle.trio_text.specs.Nodes.{carries_some, has_trio_node, is_trio_replica, place_of}

-- ---- tests

and_true : (a b : Bool) → a ≡ true → b ≡ true → (a && b) ≡ true
and_true true b x y = y
and_true false b x y = x

or_left : (a b : Bool) → a ≡ true → (a || b) ≡ true
or_left true b x = refl
or_left false b x = let z : ⊥ = cc x in absurd z

or_right : (a b : Bool) → b ≡ true → (a || b) ≡ true
or_right true b x = refl
or_right false b x = x

either : (a b : Bool) → (a || b) ≡ true → (a ≡ true) ⊎ (b ≡ true)
either true b e = inl refl
either false b e = inr e

-- ---- nodes

module _ (plan : PlanView) (inputs : List Input) where
  there : (n : TrioNode) → has_trio_node plan n ≡ true → HasNode (trio_flow plan inputs) n
  there node.Ingress e = tt
  there (node.Replica s p c) e =
      let z = both (nat_lt c group_size) (has_node plan (pair.Replica s p which.A)) e in
      let h = (nodes_named plan inputs (pair.Replica s p which.A)).there z.1 in
      (record { first = h.0.0; last = h.0.1; part = h.1 }, ltb-true c group_size z.0)
  there (node.Control s p) e = let h = (nodes_named plan inputs (pair.Control s p)).there e in record { first = h.0.0; last = h.0.1; part = h.1 }
  there node.Egress e = tt

  named : (n : TrioNode) → HasNode (trio_flow plan inputs) n → has_trio_node plan n ≡ true
  named node.Ingress h = refl
  named (node.Replica s p c) h =
      and_true (nat_lt c group_size) (has_node plan (pair.Replica s p which.A)) (lt-ltb c group_size h.1)
      ((nodes_named plan inputs (pair.Replica s p which.A)).named ((h.0.first, h.0.last), h.0.part))
  named (node.Control s p) h = (nodes_named plan inputs (pair.Control s p)).named ((h.first, h.last), h.part)
  named node.Egress h = refl

pub nodes_known : NodesAreThePlans
nodes_known plan inputs n = record { there = there plan inputs n; named = named plan inputs n }

-- ---- messages stand on links

module _ (plan : PlanView) (inputs : List Input) where
  produces : (e : EdgeId) (n : TrioNode) → IsProducer (trio_flow plan inputs) e n → (is_producer (place_of n) ≡ true) × (stage_of_node plan (place_of n) ≡ e.stage)
  produces e node.Ingress h = (refl, sym h.0)
  produces e (node.Replica s p c) h = (refl, sym h.1)
  produces e (node.Control s p) h = absurd h
  produces e node.Egress h = absurd h

  consumes : (e : EdgeId) (n : TrioNode) → IsConsumer (trio_flow plan inputs) e n → (is_consumer (place_of n) ≡ true) × (stage_of_node plan (place_of n) ≡ e.stage + 1)
  unfolding flow_of
  consumes e node.Ingress h = absurd h
  consumes e (node.Replica s p c) h = (refl, sym h.0)
  consumes e (node.Control s p) h = absurd h
  consumes e node.Egress h = (refl, omega (arith, h.0))

  acks : (e : EdgeId) (n : TrioNode) → Acknowledges (trio_flow plan inputs) e n → (acknowledges (place_of n) ≡ true) × (stage_of_node plan (place_of n) ≡ e.stage + 1)
  unfolding flow_of
  acks e node.Ingress h = absurd h
  acks e (node.Replica s p c) h = absurd h
  acks e (node.Control s p) h = (refl, sym h.0)
  acks e node.Egress h = (refl, omega (arith, h.0))

  next_to : (e : EdgeId) (before after : TrioNode) → stage_of_node plan (place_of before) ≡ e.stage → stage_of_node plan (place_of after) ≡ e.stage + 1 → are_neighbours plan (place_of before) (place_of after) ≡ true
  next_to e before after x y = eq-eqb (stage_of_node plan (place_of after)) (stage_of_node plan (place_of before) + 1) (omega arith)

  reports_up : (from to : TrioNode) → IsUp from to → carries_reports (place_of from) (place_of to) ≡ true
  reports_up node.Ingress to h = absurd h
  reports_up (node.Control s p) to h = absurd h
  reports_up node.Egress to h = absurd h
  reports_up (node.Replica s p c) node.Ingress h = absurd h
  reports_up (node.Replica s p c) (node.Replica t q d) h = absurd h
  reports_up (node.Replica s p c) node.Egress h = absurd h
  reports_up (node.Replica s p c) (node.Control t q) h = and_true (s == t) (p == q) (eq-eqb s t h.0) (eq-eqb p q h.1)

  orders_down : (from to : TrioNode) → IsUp to from → carries_orders (place_of from) (place_of to) ≡ true
  orders_down from node.Ingress h = absurd h
  orders_down from (node.Control s p) h = absurd h
  orders_down from node.Egress h = absurd h
  orders_down node.Ingress (node.Replica s p c) h = absurd h
  orders_down (node.Replica t q d) (node.Replica s p c) h = absurd h
  orders_down node.Egress (node.Replica s p c) h = absurd h
  orders_down (node.Control t q) (node.Replica s p c) h = and_true (t == s) (q == p) (eq-eqb t s (sym h.0)) (eq-eqb q p (sym h.1))

  module _ (from to : TrioNode) where
    abbrev some : Bool
    some = carries_some plan (place_of from) (place_of to)

    by_items : carries_items plan (place_of from) (place_of to) ≡ true → some ≡ true
    by_items e = or_left _ _ (or_left _ _ (or_left _ (carries_acknowledgements plan (place_of from) (place_of to)) e))

    by_acks : carries_acknowledgements plan (place_of from) (place_of to) ≡ true → some ≡ true
    by_acks e = or_left _ _ (or_left _ _ (or_right (carries_items plan (place_of from) (place_of to)) _ e))

    by_reports : carries_reports (place_of from) (place_of to) ≡ true → some ≡ true
    by_reports e = or_left _ _ (or_right _ (carries_reports (place_of from) (place_of to)) e)

    by_orders : carries_orders (place_of from) (place_of to) ≡ true → some ≡ true
    by_orders e = or_right _ (carries_orders (place_of from) (place_of to)) e

  carried : (from to : TrioNode) (m : Message) → Carries (trio_flow plan inputs) from to m → carries_some plan (place_of from) (place_of to) ≡ true
  carried from to (Tuple e k) h =
      let x = produces e from h.0 in let y = consumes e to h.1 in
      by_items from to (and_true (is_producer (place_of from) && is_consumer (place_of to)) _ (and_true (is_producer (place_of from)) (is_consumer (place_of to)) x.0 y.0) (next_to e from to x.1 y.1))
  carried from to (Ack e k) h =
      let x = acks e from h.0 in let y = produces e to h.1 in
      by_acks from to (and_true (acknowledges (place_of from) && is_producer (place_of to)) _ (and_true (acknowledges (place_of from)) (is_producer (place_of to)) x.0 y.0) (next_to e to from y.1 x.1))
  carried from to (Report e k) h = by_reports from to (reports_up from to h.0)
  carried from to (Lead t) h = by_orders from to (orders_down from to h)
  carried from to Down h = by_reports from to (reports_up from to h)

pub links_known : LinksAreThePlans
links_known plan inputs from to m start end h =
    and_true (has_trio_node plan from && has_trio_node plan to) _ (and_true (has_trio_node plan from) (has_trio_node plan to) (named plan inputs from start) (named plan inputs to end)) (carried plan inputs from to m h)

-- ---- each link carries something

module _ (plan : PlanView) (inputs : List Input) where
  -- an edge from a node, one into a node, and one that a node acknowledges
  edge_from : (n : TrioNode) → HasNode (trio_flow plan inputs) n → is_producer (place_of n) ≡ true → (t : ℕ)
      → IsProducer (trio_flow plan inputs) (record { stage = stage_of_node plan (place_of n); from = part_of n; to = t }) n
  edge_from node.Ingress h e t = (refl, refl)
  edge_from (node.Replica s p c) h e t = (h.0.first, refl, refl)
  edge_from (node.Control s p) h e t = let z : ⊥ = cc e in absurd z
  edge_from node.Egress h e t = let z : ⊥ = cc e in absurd z

  edge_into : (n : TrioNode) → is_consumer (place_of n) ≡ true → (s q : ℕ) → stage_of_node plan (place_of n) ≡ s + 1
      → IsConsumer (trio_flow plan inputs) (record { stage = s; from = q; to = part_of n }) n
  unfolding flow_of
  edge_into node.Ingress e s q at = let z : ⊥ = cc e in absurd z
  edge_into (node.Replica t p c) e s q at = (sym at, refl)
  edge_into (node.Control t p) e s q at = let z : ⊥ = cc e in absurd z
  edge_into node.Egress e s q at = (omega (arith, at), refl)

  edge_acked : (n : TrioNode) → acknowledges (place_of n) ≡ true → (s q : ℕ) → stage_of_node plan (place_of n) ≡ s + 1
      → Acknowledges (trio_flow plan inputs) (record { stage = s; from = q; to = part_of n }) n
  unfolding flow_of
  edge_acked node.Ingress e s q at = let z : ⊥ = cc e in absurd z
  edge_acked (node.Replica t p c) e s q at = let z : ⊥ = cc e in absurd z
  edge_acked (node.Control t p) e s q at = (sym at, refl)
  edge_acked node.Egress e s q at = (omega (arith, at), refl)

  up_reports : (from to : TrioNode) → carries_reports (place_of from) (place_of to) ≡ true → IsUp from to
  up_reports node.Ingress to e = let z : ⊥ = cc e in absurd z
  up_reports (node.Control s p) to e = let z : ⊥ = cc e in absurd z
  up_reports node.Egress to e = let z : ⊥ = cc e in absurd z
  up_reports (node.Replica s p c) node.Ingress e = let z : ⊥ = cc e in absurd z
  up_reports (node.Replica s p c) (node.Replica t q d) e = let z : ⊥ = cc e in absurd z
  up_reports (node.Replica s p c) node.Egress e = let z : ⊥ = cc e in absurd z
  up_reports (node.Replica s p c) (node.Control t q) e = let z = both (s == t) (p == q) e in (eqb-true s t z.0, eqb-true p q z.1)

  down_orders : (from to : TrioNode) → carries_orders (place_of from) (place_of to) ≡ true → IsUp to from
  down_orders node.Ingress to e = let z : ⊥ = cc e in absurd z
  down_orders (node.Replica s p c) to e = let z : ⊥ = cc e in absurd z
  down_orders node.Egress to e = let z : ⊥ = cc e in absurd z
  down_orders (node.Control s p) node.Ingress e = let z : ⊥ = cc e in absurd z
  down_orders (node.Control s p) (node.Control t q) e = let z : ⊥ = cc e in absurd z
  down_orders (node.Control s p) node.Egress e = let z : ⊥ = cc e in absurd z
  down_orders (node.Control s p) (node.Replica t q c) e = let z = both (s == t) (p == q) e in (sym (eqb-true s t z.0), sym (eqb-true p q z.1))

  module _ (from to : TrioNode) (start : HasNode (trio_flow plan inputs) from) (end : HasNode (trio_flow plan inputs) to) where
    abbrev Carried : Type 0
    Carried = (m : Message) × Carries (trio_flow plan inputs) from to m

    edge_of_items : carries_items plan (place_of from) (place_of to) ≡ true → HasEdge (trio_flow plan inputs) from to
    edge_of_items e =
        let z = both (is_producer (place_of from) && is_consumer (place_of to)) (are_neighbours plan (place_of from) (place_of to)) e in
        let y = both (is_producer (place_of from)) (is_consumer (place_of to)) z.0 in
        let next = eqb-true (stage_of_node plan (place_of to)) (stage_of_node plan (place_of from) + 1) z.1 in
        let at : EdgeId = record { stage = stage_of_node plan (place_of from); from = part_of from; to = part_of to } in
        (at, edge_from from start y.0 (part_of to), edge_into to y.1 (stage_of_node plan (place_of from)) (part_of from) next)

    with_items : carries_items plan (place_of from) (place_of to) ≡ true → Carried
    with_items e = let h = edge_of_items e in (Tuple h.0 1, (h.1, h.2))

    with_acks : carries_acknowledgements plan (place_of from) (place_of to) ≡ true → Carried
    with_acks e =
        let z = both (acknowledges (place_of from) && is_producer (place_of to)) (are_neighbours plan (place_of to) (place_of from)) e in
        let y = both (acknowledges (place_of from)) (is_producer (place_of to)) z.0 in
        let next = eqb-true (stage_of_node plan (place_of from)) (stage_of_node plan (place_of to) + 1) z.1 in (
          Ack (record { stage = stage_of_node plan (place_of to); from = part_of to; to = part_of from }) 1,
          (edge_acked from y.0 (stage_of_node plan (place_of to)) (part_of to) next, edge_from to end y.1 (part_of from)),
        )

    with_some : carries_some plan (place_of from) (place_of to) ≡ true → Carried
    with_some e = orders_last (either _ (carries_orders (place_of from) (place_of to)) e)
      where
        items_or_acks : (carries_items plan (place_of from) (place_of to) ≡ true) ⊎ (carries_acknowledgements plan (place_of from) (place_of to) ≡ true) → Carried
        items_or_acks (inl e) = with_items e
        items_or_acks (inr e) = with_acks e

        or_reports : ((carries_items plan (place_of from) (place_of to) || carries_acknowledgements plan (place_of from) (place_of to)) ≡ true) ⊎ (carries_reports (place_of from) (place_of to) ≡ true) → Carried
        or_reports (inl e) = items_or_acks (either (carries_items plan (place_of from) (place_of to)) (carries_acknowledgements plan (place_of from) (place_of to)) e)
        or_reports (inr e) = (Down, up_reports from to e)

        orders_last : ((carries_items plan (place_of from) (place_of to) || carries_acknowledgements plan (place_of from) (place_of to) || carries_reports (place_of from) (place_of to)) ≡ true) ⊎ (carries_orders (place_of from) (place_of to) ≡ true) → Carried
        orders_last (inl e) = or_reports (either (carries_items plan (place_of from) (place_of to) || carries_acknowledgements plan (place_of from) (place_of to)) (carries_reports (place_of from) (place_of to)) e)
        orders_last (inr e) = (Lead 1, down_orders from to e)

-- the ends of what a plan has between two nodes, and what it is
ends_there : (plan : PlanView) (inputs : List Input) (from to : TrioNode) (what : Bool) → (has_trio_node plan from && has_trio_node plan to && what) ≡ true
    → HasNode (trio_flow plan inputs) from × HasNode (trio_flow plan inputs) to × (what ≡ true)
ends_there plan inputs from to what e =
    let z = both (has_trio_node plan from && has_trio_node plan to) what e in
    let y = both (has_trio_node plan from) (has_trio_node plan to) z.0 in
    (there plan inputs from y.0, there plan inputs to y.1, z.1)

pub links_carry : LinksCarryMessages
links_carry plan inputs from to e = let z = ends_there plan inputs from to (carries_some plan (place_of from) (place_of to)) e in with_some plan inputs from to z.0 z.1 z.2

-- ---- events

pub named_there : NamedEventsAreThere
named_there plan inputs (event.Take from to index) h = let z = ends_there plan inputs from to (carries_some plan (place_of from) (place_of to)) h.0 in z.1
named_there plan inputs (event.Work n) h = there plan inputs n h
named_there plan inputs event.Make h = tt
named_there plan inputs (event.Kill n) h = let z = both (is_trio_replica n) (has_trio_node plan n) h in there plan inputs n z.1
named_there plan inputs (event.Pull from to) h =
    let z = ends_there plan inputs from to (carries_items plan (place_of from) (place_of to)) h in
    (z.0, z.1, edge_of_items plan inputs from to z.0 z.1 z.2)
