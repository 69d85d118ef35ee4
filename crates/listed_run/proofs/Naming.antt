-- The events of a legal list are named by the plan.
use Rattle.std.proofs.Common.{◌≡◌, ◌&&◌, ◌+◌, ℕ, zero, suc, Bool, true, false, List, [], ◌∷◌, Option, None, Some, Ok, Err, refl, sym, subst, eq-eqb, arith}
use Rattle.std.specs.Prelude.{IsTrue, Result}
use Rattle.std.specs.List.{All}
use Rattle.std.proofs.lemmas.List.Elements.{All-cons, All-nil}
use Rattle.tuple_edge.specs.Input.{Input}
use Rattle.tuple_edge.specs.declared.event.Drained.{Drained}
use Rattle.tuple_edge.specs.declared.event.Drained.TheVariants as drained
use Rattle.tuple_edge.specs.declared.event.Event.{Event}
use Rattle.tuple_edge.specs.declared.event.Event.TheVariants as event
use Rattle.tuple_edge.specs.declared.node.EdgeId.{EdgeId}
use Rattle.tuple_edge.specs.declared.node.LinkId.{LinkId}
use Rattle.tuple_edge.specs.declared.node.NodeId.{NodeId}
use Rattle.tuple_edge.specs.declared.node.NodeId.TheVariants as node
use Rattle.tuple_edge.specs.declared.row.Row.{Row}
use Rattle.plan_reader.specs.Nodes.{are_neighbours, carries_items, has_link, has_node, is_consumer, is_producer, is_replica, names_event, stage_of_node}
use Rattle.plan_reader.specs.PlanView.{IsPlan, PlanView}
use Rattle.pair_machine.specs.Counts.{flow_of}
use Rattle.pair_machine.specs.Legal.{IsLegal}
use Rattle.pair_machine.specs.Links.{Carries, HasEdge, HasNode, IsConsumer, IsProducer, IsThere}
use Rattle.pair_machine.specs.Lists.{Each}
use Rattle.pair_machine.specs.Machine.{State, acted, after, does, follow, nth_from_one, opening, partner_node, step, taking_of}
use Rattle.pair_machine.specs.Messages.{Act, AsksBack, AsksStop, Dies, Message, Refusal}
use Rattle.pair_machine.specs.Sound.{IsSound}
use Rattle.pair_machine.specs.declared.order.Order.{Order}
use Rattle.pair_machine.proofs.Legal.{follow_err}
use Rattle.pair_machine.proofs.PlanFlow.{plan_is_flow}
use Rattle.pair_machine.proofs.PlanNodes.{links_named, nodes_named}
use Rattle.pair_machine.proofs.SoundKept.{opening_sound, sound_kept}
use Rattle.pair_machine.proofs.StepTurns.{HoldsOnOk}
use Rattle.run_journal.specs.Text.{lined_from}
use Rattle.run_journal.specs.declared.lined.Lined.{Lined}
use Rattle.flux_core.specs.Follows.{AreNamed}
use Rattle.drained_run.specs.Ended.{EndsSo}

and_true : (a b : Bool) → a ≡ true → b ≡ true → (a && b) ≡ true
and_true true b x y = y
and_true false b x y = x

nth_each : {X : Type 0} (P : X → Type 0) (x : X) (xs : List X) (k : ℕ) → Each P xs → nth_from_one xs k ≡ Some x → P x
nth_each P x xs zero all e = cc e
nth_each P x [] (suc k) all e = cc e
nth_each P x (y ∷ ys) (suc zero) all e = let same : y ≡ x = cc e in subst P same all.0
nth_each P x (y ∷ ys) (suc (suc k)) all e = nth_each P x ys (suc k) all.1 e

module _ (plan : PlanView) (inputs : List Input) (limits : IsPlan plan) where
  has : (n : NodeId) → HasNode (flow_of plan inputs) n → has_node plan n ≡ true
  has n h = (nodes_named plan inputs n).named h

  -- ---- a packet that is taken went over a link of the plan

  taken_named : (l : LinkId) (k : ℕ) (s : State) (a : Act) → IsSound (flow_of plan inputs) s → taking_of l k (s.sent l) (nth_from_one (s.sent l) k) ≡ Ok a → has_link plan l ≡ true
  taken_named l k s a sound e = go (nth_from_one (s.sent l) k) refl e
    where
      go : (o : Option Message) → nth_from_one (s.sent l) k ≡ o → taking_of l k (s.sent l) o ≡ Ok a → has_link plan l ≡ true
      go None at e = let z : ⊥ = cc e in absurd z
      go (Some m) at e =
          let ends = nth_each (λ m. HasNode (flow_of plan inputs) l.from × HasNode (flow_of plan inputs) l.to) m (s.sent l) k (sound.ends l) at in
          links_named plan inputs l m ends.0 ends.1 (nth_each (Carries (flow_of plan inputs) l) m (s.sent l) k (sound.carried l) at)

  -- ---- what fails, or is asked, is a replica

  dies : (n : NodeId) (s t : State) → after n s (does (flow_of plan inputs) n Dies (s.nodes n)) ≡ Ok t → is_replica n ≡ true
  dies node.Ingress s t e = let z : ⊥ = cc e in absurd z
  dies (node.Replica stage part w) s t e = refl
  dies (node.Control stage part) s t e = let z : ⊥ = cc e in absurd z
  dies node.Egress s t e = let z : ⊥ = cc e in absurd z

  asks_stop : (n : NodeId) (s t : State) → after n s (does (flow_of plan inputs) n AsksStop (s.nodes n)) ≡ Ok t → is_replica n ≡ true
  asks_stop node.Ingress s t e = let z : ⊥ = cc e in absurd z
  asks_stop (node.Replica stage part w) s t e = refl
  asks_stop (node.Control stage part) s t e = let z : ⊥ = cc e in absurd z
  asks_stop node.Egress s t e = let z : ⊥ = cc e in absurd z

  asks_back : (n : NodeId) (s t : State) → after (partner_node n) s (does (flow_of plan inputs) (partner_node n) AsksBack (s.nodes (partner_node n))) ≡ Ok t → is_replica n ≡ true
  asks_back node.Ingress s t e = let z : ⊥ = cc e in absurd z
  asks_back (node.Replica stage part w) s t e = refl
  asks_back (node.Control stage part) s t e = let z : ⊥ = cc e in absurd z
  asks_back node.Egress s t e = let z : ⊥ = cc e in absurd z

  -- ---- an edge of the machine is one of the plan

  produces : (e : EdgeId) (n : NodeId) → IsProducer (flow_of plan inputs) e n → (is_producer n ≡ true) × (stage_of_node plan n ≡ e.stage)
  produces e node.Ingress h = (refl, sym h.0)
  produces e (node.Replica s p w) h = (refl, sym h.1)
  produces e (node.Control s p) h = absurd h
  produces e node.Egress h = absurd h

  consumes : (e : EdgeId) (n : NodeId) → IsConsumer (flow_of plan inputs) e n → (is_consumer n ≡ true) × (stage_of_node plan n ≡ e.stage + 1)
  unfolding flow_of
  consumes e node.Ingress h = absurd h
  consumes e (node.Replica s p w) h = (refl, sym h.0)
  consumes e (node.Control s p) h = absurd h
  consumes e node.Egress h = (refl, omega (arith, h.0))

  carries : (one other : NodeId) → HasEdge (flow_of plan inputs) one other → carries_items plan one other ≡ true
  carries one other h =
      let x = produces h.0 one h.1 in
      let y = consumes h.0 other h.2 in
      let next : stage_of_node plan other ≡ stage_of_node plan one + 1 = omega (arith, x.1, y.1) in
      and_true (is_producer one && is_consumer other) (are_neighbours plan one other) (and_true (is_producer one) (is_consumer other) x.0 y.0)
      (eq-eqb (stage_of_node plan other) (stage_of_node plan one + 1) next)

  -- ---- an event that is a step

  named : (e : Event) (s t : State) → IsThere (flow_of plan inputs) e → IsSound (flow_of plan inputs) s → step (flow_of plan inputs) s e ≡ Ok t → names_event plan e ≡ true
  unfolding step
  named (event.Take l k) s t there sound e = go (taking_of l k (s.sent l) (nth_from_one (s.sent l) k)) refl e
    where
      go : (r : Result Act Refusal) → taking_of l k (s.sent l) (nth_from_one (s.sent l) k) ≡ r → acted (flow_of plan inputs) l.to s r ≡ Ok t → has_link plan l ≡ true
      go (Ok a) is e = taken_named l k s a sound is
      go (Err why) is e = let z : ⊥ = cc e in absurd z
  named (event.Work n) s t there sound e = has n there
  named event.Make s t there sound e = refl
  named (event.Kill n) s t there sound e = and_true (is_replica n) (has_node plan n) (dies n s t e) (has n there)
  named (event.AskStop n) s t there sound e = and_true (is_replica n) (has_node plan n) (asks_stop n s t e) (has n there)
  named (event.AskBack n) s t there sound e = and_true (is_replica n) (has_node plan n) (asks_back n s t e) (has n there)
  named (event.Pull one other) s t there sound e =
      and_true (has_node plan one && has_node plan other) (carries_items plan one other) (and_true (has_node plan one) (has_node plan other) (has one there.0) (has other there.1)) (carries one other there.2)

  all_named : (line : ℕ) (es : List Event) (s t : State) → Each (IsThere (flow_of plan inputs)) es → IsSound (flow_of plan inputs) s → follow (flow_of plan inputs) es (Ok s) ≡ Ok t
      → Each (λ (l : Lined). names_event plan l.event ≡ true) (lined_from line es)
  all_named line [] s t there sound leads = tt
  all_named line (e ∷ es) s t there sound leads =
      go (step (flow_of plan inputs) s e) refl (sound_kept (flow_of plan inputs) (plan_is_flow plan inputs limits) s e there.0 sound) leads (λ u next on. all_named (line + 1) es u t there.1 next on)
    where
      go : (r : Result State Refusal) → step (flow_of plan inputs) s e ≡ r → HoldsOnOk (IsSound (flow_of plan inputs)) r → follow (flow_of plan inputs) es r ≡ Ok t
          → ((u : State) → IsSound (flow_of plan inputs) u → follow (flow_of plan inputs) es (Ok u) ≡ Ok t → Each (λ (l : Lined). names_event plan l.event ≡ true) (lined_from (line + 1) es))
          → Each (λ (l : Lined). names_event plan l.event ≡ true) (lined_from line (e ∷ es))
      go (Ok u) is next leads more = (named e s u there.0 sound is, more u next leads)
      go (Err why) is next leads more = let g = follow_err (flow_of plan inputs) es why in let z : ⊥ = cc (leads, g) in absurd z

-- ---- the events of a run that has ended

all_of : (P : Lined → Type 0) (ls : List Lined) → Each P ls → All P ls
all_of P [] h = All-nil P
all_of P (l ∷ ls) h = All-cons P l ls h.0 (all_of P ls h.1)

reached : (plan : PlanView) (inputs : List Input) (script : List Order) (events : List Event) (rows : List Row) (how : Drained) → EndsSo plan inputs script events rows how
    → (t : State) × IsLegal (flow_of plan inputs) events t
reached plan inputs script events rows drained.Whole h = (h.reached, h.run.legal)
reached plan inputs script events rows (drained.Lost stage part) h = (h.reached, h.run.legal)

pub ended_named : (plan : PlanView) (inputs : List Input) (script : List Order) (line : ℕ) (events : List Event) (rows : List Row) (how : Drained) → IsPlan plan
    → EndsSo plan inputs script events rows how → AreNamed plan (lined_from line events)
ended_named plan inputs script line events rows how limits ends =
    let r = reached plan inputs script events rows how ends in
    all_of (λ (l : Lined). IsTrue (names_event plan l.event)) (lined_from line events)
    (all_named plan inputs limits line events opening r.0 r.1.there (opening_sound (flow_of plan inputs) (plan_is_flow plan inputs limits)) r.1.leads)
