-- A controller sends over links of its plan alone.
use Rattle.std.proofs.Common.{◌≡◌, ◌≤◌, ◌<◌, ◌+◌, ◌-◌, ◌&&◌, ◌||◌, ◌⊎◌, ◌∙◌, inl, inr, ℕ, zero, suc, Bool, true, false, List, [], ◌∷◌, ◌++◌, IsTrue, drop, length, refl, sym, ap, subst, arith}
use Rattle.std.specs.Prelude.{◌==◌, nat_le, nat_lt}
use Rattle.std.proofs.lemmas.Bool.{and_parts, eq-eqb, eqb-true, le-leb, leb-true, lt-ltb}
use Rattle.std.proofs.lemmas.List.{drop_at}
use Rattle.std.specs.Option.{is_none}
use Rattle.tuple_edge.specs.declared.node.NodeId.{NodeId}
use Rattle.tuple_edge.specs.declared.node.NodeId.TheVariants as node
use Rattle.tuple_edge.specs.declared.node.Which.{Which}
use Rattle.tuple_edge.specs.declared.node.Which.TheVariants.{A, B}
use Rattle.tuple_edge.specs.declared.packet.Body.{Body}
use Rattle.plan_reader.specs.Nodes.{are_neighbours, has_link, has_pair, parts_of}
use Rattle.plan_reader.specs.PlanView.{PlanView}
use Rattle.pair_control.specs.ControllerView.{ControllerView, numbers_of, partition_of}
use Rattle.pair_control.specs.Packets.{message_of, packets_of, taking}
use Rattle.pair_control.specs.StandsFor.{IsOfPlan, node_of}
use Rattle.pair_machine.specs.Controllers.{acks, acks_from, backs, controller_hears, controller_takes, counts, goes_down, is_catching, is_down, is_up, leads_now, least, stops, then_do}
use Rattle.pair_machine.specs.Links.{link}
use Rattle.pair_machine.specs.Lists.{Each}
use Rattle.pair_machine.specs.Messages.{Ack, AskBack, AskStop, Caught, Down, Envelope, Message, Report}
use Rattle.pair_machine.specs.Numbers.{Controller, Partition, in_edge, other, replica_at}
use Rattle.pair_machine.specs.Producers.{to_producers}
use Rattle.pair_machine.specs.Receivers.{GoOverLinks, appended}
use Rattle.pair_machine.proofs.Lists.{each_append}
use Rattle.pair_machine.proofs.Tests.{if_elim}

-- to whom the controller of a pair with so many in-edges sends: its replicas, and the producers of its in-edges
abbrev pub IsReceiver : Partition → ℕ → NodeId → Type 0
IsReceiver p edges node.Ingress = p.stage ≡ 1
IsReceiver p edges (node.Replica s q w) = ((s ≡ p.stage) × (q ≡ p.part)) ⊎ ((s + 1 ≡ p.stage) × ((1 ≤ s) × (q < edges)))
IsReceiver p edges (node.Control s q) = ⊥
IsReceiver p edges node.Egress = ⊥

-- ---- to them alone it sends

module _ (p : Partition) (edges : ℕ) where
  abbrev Well : Envelope → Type 0
  Well e = IsReceiver p edges e.to

  abbrev Sent : (Controller × List Envelope) → Type 0
  Sent x = Each Well x.1

  mine : (p.stage ≡ p.stage) × (p.part ≡ p.part)
  mine = (refl, refl)

  goes_down_sent : (w : Which) (c : Controller) → Sent (goes_down p w c)
  goes_down_sent w c = if_elim Sent (leads_now c.leader w) _ _
      (λ t. if_elim Sent (is_up (c.watched (other w)).status) _ _ (λ u. (inl (refl, refl), tt)) (λ u. tt)) (λ t. tt)

  hears_sent : (w : Which) (m : Message) (c : Controller) → Sent (controller_hears p w m c)
  hears_sent w (Report i e k) c = if_elim Sent (counts (c.watched w) i) _ _ (λ t. tt) (λ t. tt)
  hears_sent w (Down i) c = if_elim Sent (counts (c.watched w) i) _ _ (λ t. goes_down_sent w c) (λ t. tt)
  hears_sent w (AskStop i) c = if_elim Sent (counts (c.watched w) i) _ _ (λ t. tt) (λ t. tt)
  hears_sent w AskBack c = tt
  hears_sent w (Caught i) c = if_elim Sent ((i == (c.watched w).inc) && is_catching (c.watched w).status) _ _
      (λ t. if_elim Sent (is_none c.leader) _ _ (λ u. (inl (refl, refl), tt)) (λ u. tt)) (λ t. tt)
  hears_sent w m c = tt

  backs_sent : (w : Which) (c : Controller) → Sent (backs p w c)
  backs_sent w c = if_elim Sent ((c.watched w).back && (is_down (c.watched w).status && is_up (c.watched (other w)).status)) _ _ (λ t. (inl (refl, refl), (inl (refl, refl), tt))) (λ t. tt)

  stops_sent : (w : Which) (c : Controller) → Sent (stops p w c)
  stops_sent w c = if_elim Sent ((c.watched w).stop && (is_up (c.watched w).status && is_up (c.watched (other w)).status)) _ _ (λ t. (inl (refl, refl), goes_down_sent w c)) (λ t. tt)

  module _ (some : 1 ≤ p.stage) where
    one_not : p.stage == 1 ≡ false → (p.stage - 1 + 1 ≡ p.stage) × (1 ≤ p.stage - 1)
    one_not e = go p.stage some e
      where
        go : (n : ℕ) → 1 ≤ n → n == 1 ≡ false → (n - 1 + 1 ≡ n) × (1 ≤ n - 1)
        go zero le e = absurd (omega arith)
        go (suc zero) le e = cc
        go (suc (suc n)) le e = (omega arith, omega arith)

    producers_sent : (q k : ℕ) → q < edges → Each Well (to_producers p q (Ack (in_edge p q) k))
    producers_sent q k lt = if_elim (Each Well) (p.stage == 1) _ _ (λ t. (eqb-true p.stage 1 t, tt))
        (λ t. let n = one_not t in (inr (n.0, (n.1, lt)), (inr (n.0, (n.1, lt)), tt)))

    acks_sent : (more q : ℕ) (c : Controller) → q + more ≤ edges → Each Well (acks_from more q p c)
    acks_sent zero q c le = tt
    acks_sent (suc more) q c le = each_append Well _ (acks_from more (q + 1) p c)
        (if_elim (Each Well) (nat_lt (c.acked q) (least c q)) (to_producers p q (Ack (in_edge p q) (least c q))) [] (λ t. producers_sent q (least c q) (omega arith)) (λ t. tt))
        (acks_sent more (q + 1) c (omega arith))

    then_sent : (x : Controller × List Envelope) (g : Controller → (Controller × List Envelope)) → Sent x → Sent (g x.0) → Sent (then_do x g)
    then_sent x g h k = each_append Well x.1 (g x.0).1 h k

    pub receivers : (w : Which) (m : Message) (c : Controller) → Sent (controller_takes edges p w m c)
    receivers w m c =
        let heard = controller_hears p w m c in
        let a_back = then_do heard (backs p A) in
        let b_back = then_do a_back (backs p B) in
        let a_stopped = then_do b_back (stops p A) in
        let b_stopped = then_do a_stopped (stops p B) in
        then_sent b_stopped (acks edges p) (then_sent a_stopped (stops p B) (then_sent b_back (stops p A) (then_sent a_back (backs p B) (then_sent heard (backs p A) (hears_sent w m c) (backs_sent A heard.0)) (backs_sent B a_back.0)) (stops_sent A b_back.0)) (stops_sent B a_stopped.0))
        (acks_sent edges 0 b_stopped.0 (omega arith))

-- ---- these are links of the plan

-- the stage is one of the plan
is_last : (plan : PlanView) (stage part : ℕ) → IsTrue (has_pair plan stage part) → stage ≤ length plan.stages
is_last plan stage part there =
    let staged = (and_parts (nat_le 1 stage && nat_le stage (length plan.stages)) (nat_lt part (parts_of plan stage)) there).0 in
    leb-true stage (length plan.stages) (and_parts (nat_le 1 stage) (nat_le stage (length plan.stages)) staged).1

or_true : (b : Bool) → ((((b || false) || false) || true) || false) ≡ true
or_true true = refl
or_true false = refl

linked : (plan : PlanView) (c : ControllerView) (n : NodeId) → IsOfPlan plan c → IsReceiver (partition_of c) (length c.acked) n → IsTrue (has_link plan (link (node_of c) n))
linked plan c node.Ingress h r =
    let next = eq-eqb c.stage (0 + 1) r in rw (h.there, next) refl
linked plan c (node.Replica s q w) h (inl r) =
    let pair : IsTrue (has_pair plan s q) = subst (λ k. IsTrue (has_pair plan k q)) (sym r.0) (subst (λ k. IsTrue (has_pair plan c.stage k)) (sym r.1) h.there) in
    let stage = eq-eqb c.stage s (sym r.0) in
    let part = eq-eqb c.part q (sym r.1) in
    rw (h.there, pair, stage, part) (or_true (are_neighbours plan (node.Replica s q w) (node_of c)))
linked plan c (node.Replica s q w) h (inr r) =
    let first = le-leb 1 s r.1.0 in
    let within : s ≤ length plan.stages = let e = r.0 in let l = is_last plan c.stage c.part h.there in omega arith in
    let last = le-leb s (length plan.stages) within in
    let source : c.stage - 1 ≡ s = let e = r.0 in omega arith in
    let few : q < parts_of plan s = let e = h.edges in let lt = r.1.1 in subst (λ k. q < parts_of plan k) source (omega arith) in
    let part = lt-ltb q (parts_of plan s) few in
    let next = eq-eqb c.stage (s + 1) (sym r.0) in
    rw (h.there, first, last, part, next) refl
linked plan c (node.Control s q) h r = absurd r
linked plan c node.Egress h r = absurd r

all_linked : (plan : PlanView) (c : ControllerView) (es : List Envelope) → IsOfPlan plan c
    → Each (λ e. IsReceiver (partition_of c) (length c.acked) e.to) es → GoOverLinks plan (node_of c) (packets_of es)
all_linked plan c [] h k = tt
all_linked plan c (e ∷ es) h k = (linked plan c e.to h k.0, all_linked plan c es h k.1)

-- what a call appends for a packet goes over links of the plan
pub taking_linked : (plan : PlanView) (c : ControllerView) (w : Which) (b : Body) (before after : List (NodeId × Body)) → 1 ≤ c.stage → IsOfPlan plan c
    → after ≡ before ++ packets_of (taking c (replica_at (partition_of c) w) b).1 → GoOverLinks plan (node_of c) (appended before after)
taking_linked plan c w b before after some h e =
    let sent = (taking c (replica_at (partition_of c) w) b).1 in
    subst (GoOverLinks plan (node_of c)) (sym (ap (drop (length before)) e ∙ drop_at before (packets_of sent) (length before) refl))
    (all_linked plan c sent h (receivers (partition_of c) (length c.acked) some w (message_of b) (numbers_of c)))
