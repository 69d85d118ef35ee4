-- Each call of a producer in code is what the machine's producer does.
use Rattle.tuple_edge.specs.declared.node.Which.TheVariants.{A, B}
use Rattle.tuple_edge.specs.declared.node.Which.{Which}
use Rattle.tuple_edge.specs.Input.{Input}
use Rattle.plan_reader.specs.PlanView.{PlanView}
use Rattle.pair_machine.specs.Counts.{flow_of}
use Rattle.std.proofs.Common.{◌≡◌, ◌<◌, ◌≤◌, ◌+◌, ℕ, zero, suc, Bool, true, false, List, [], ◌∷◌, Option, None, Some, length, map, max, refl, sym, ap, ◌∙◌, subst, arith}
use Rattle.std.specs.Prelude.{◌==◌, ◌&&◌, if◌then◌else◌, min, nat_le, nat_lt, slice_index_or, replicate}
use Rattle.std.proofs.Math.ListN.{length-set}
use Rattle.std.proofs.lemmas.Bool.{eqb-true, eq-eqb}
use Rattle.std.proofs.lemmas.List.{get_or-set_same, get_or-set_other, length-map, length-replicate}
use Rattle.tuple_edge.specs.declared.item.Item.{Item}
use Rattle.tuple_edge.specs.declared.node.EdgeId.{EdgeId}
use Rattle.ack_buffer.specs.Buffer.{BufferView, starting_at}
use Rattle.flux_producer.specs.Due as code
use Rattle.flux_producer.specs.Limits.{max_copies}
use Rattle.flux_producer.specs.OutEdge.{OutEdgeView, acknowledged, over, rewound, sent, unused, with_item}
use Rattle.flux_producer.specs.OutEdge as edge
use Rattle.flux_producer.specs.ProducerView.{ProducerView, buffer_at, cursor_at, edge_at, sent_on, with_edge, without_room}
use Rattle.flux_producer.specs.declared.due.Due.{Due as Sending}
use Rattle.flux_producer.proofs.Dues.{due_least}
use Rattle.pair_machine.specs.Consumers.{with_at}
use Rattle.pair_machine.specs.Flow.{Flow}
use Rattle.pair_machine.specs.Numbers.{Partition, Producer, out_edge, copy_of}
use Rattle.pair_machine.specs.Producers.{Due, acked_to, copies, due, due_below, due_copies, due_copy, wanted}
use Rattle.pair_machine.specs.Producers as machine
use Rattle.pair_machine.proofs.Found.{IsDue, is_due}
use Rattle.pair_machine.proofs.Tests.{nat_self, if_elim}
use Rattle.node_edges.specs.OutEdges.{EdgeStands, ProducerStands, any_due_in, due_in, with_items}
use Rattle.node_edges.specs.ProducerLaws as law
use Rattle.node_edges.proofs.OutEdges.{acked_stands, cursor_is, held_is, is_held, made_stands, more_stands, over_stands, without_stands, rewound_stands, sent_stands, wanted_stands}

-- what is due, in code and in the machine ------------------------------------------------

if_due : (b : Bool) (d e : Sending) → any_due_in (if b then Some d else Some e) ≡ (if b then Some (due_in d) else Some (due_in e))
if_due true d e = refl
if_due false d e = refl

sooner_in : (d e : Option Sending) → any_due_in (code.sooner d e) ≡ machine.sooner (any_due_in d) (any_due_in e)
sooner_in None e = refl
sooner_in (Some d) None = refl
sooner_in (Some d) (Some e) = if_due (nat_le d.number e.number) d e

if_some : (b : Bool) (d : Sending) → any_due_in (if b then Some d else None) ≡ (if b then Some (due_in d) else None)
if_some true d = refl
if_some false d = refl

if_leads : (b : Bool) (d : Option Sending) → any_due_in (if b then d else None) ≡ (if b then any_due_in d else None)
if_leads true d = refl
if_leads false d = refl

module _ (f : Flow) (on : EdgeId → List Item) (p : Partition) where
  -- one edge of a producer is another one, which stands for the numbers; the others did before
  with_stands : (made lows : ℕ → ℕ) (next : ℕ → ℕ → ℕ) (y : ProducerView) (t : ℕ) (e : OutEdgeView) →
      t < length y.edges → EdgeStands (on (out_edge p t)) (made t) (lows t) (next t) e →
      (j : ℕ) → ((j == t) ≡ false → EdgeStands (on (out_edge p j)) (made j) (lows j) (next j) (edge_at y j)) →
      EdgeStands (on (out_edge p j)) (made j) (lows j) (next j) (edge_at (with_edge y t e) j)
  with_stands made lows next y t e there s j old = go (j == t) refl
    where
      go : (b : Bool) → (j == t) ≡ b → EdgeStands (on (out_edge p j)) (made j) (lows j) (next j) (edge_at (with_edge y t e) j)
      go true same =
          subst (λ k. EdgeStands (on (out_edge p k)) (made k) (lows k) (next k) (edge_at (with_edge y t e) k)) (sym (eqb-true j t same))
          (subst (EdgeStands (on (out_edge p t)) (made t) (lows t) (next t)) (sym (get_or-set_same y.edges t e unused there)) s)
      go false not =
          subst (EdgeStands (on (out_edge p j)) (made j) (lows j) (next j)) (sym (get_or-set_other y.edges t j e unused (λ at. let z : true ≡ false = sym (eq-eqb j t at) ∙ not in cc))) (old not)

  -- a list of edges without their room
  edge_without : (one other : List OutEdgeView) → map without_room one ≡ map without_room other → (t : ℕ) → without_room (slice_index_or one t unused) ≡ without_room (slice_index_or other t unused)
  edge_without [] [] e t = refl
  edge_without [] (y ∷ other) e t = let z : ⊥ = cc e in absurd z
  edge_without (x ∷ one) [] e t = let z : ⊥ = cc e in absurd z
  edge_without (x ∷ one) (y ∷ other) e zero = let z : without_room x ≡ without_room y = cc e in z
  edge_without (x ∷ one) (y ∷ other) e (suc t) = edge_without one other (let z : map without_room one ≡ map without_room other = cc e in z) t

  pub contents : law.LooksAtContents f on p
  contents made x one other e s =
      let same : map without_room one.edges ≡ map without_room other.edges = ap (λ (z : ProducerView). z.edges) e in
      record {
        stage = sym (ap (λ (z : ProducerView). z.stage) e) ∙ s.stage;
        from = sym (ap (λ (z : ProducerView). z.from) e) ∙ s.from;
        copies = sym (ap (λ (z : ProducerView). z.copies) e) ∙ s.copies;
        targets = sym (length-map other.edges without_room) ∙ sym (ap length same) ∙ length-map one.edges without_room ∙ s.targets;
        term = sym (ap (λ (z : ProducerView). z.term) e) ∙ s.term;
        leads = sym (ap (λ (z : ProducerView). z.leads) e) ∙ s.leads;
        edges = λ t l.
            let at = sym (edge_without one.edges other.edges same t) in
            let was = s.edges t l in
            record {
              low = ap (λ (z : OutEdgeView). z.buffer.low) at ∙ was.low;
              produced = ap (λ (z : OutEdgeView). z.buffer.produced) at ∙ was.produced;
              kept = ap (λ (z : OutEdgeView). z.buffer.items) at ∙ was.kept;
              cursors = ap (λ (z : OutEdgeView). z.cursors) at ∙ was.cursors;
            };
      }

  unused_at : (n t : ℕ) → slice_index_or (replicate n unused) t unused ≡ unused
  unused_at zero t = refl
  unused_at (suc n) zero = refl
  unused_at (suc n) (suc t) = unused_at n t

  pub opens : law.Opens f on p
  opens term leads e = record {
    stage = refl;
    from = refl;
    copies = refl;
    targets = length-replicate (f.targets p.stage) unused;
    term = sym e;
    leads = refl;
    edges = λ t l. subst (EdgeStands (on (out_edge p t)) 0 0 (λ c. 1)) (sym (unused_at (f.targets p.stage) t)) (record {
      low = refl;
      produced = refl;
      kept = refl;
      cursors = refl;
    });
  }

  over_at : (buffers : List BufferView) (t : ℕ) → slice_index_or (map over buffers) t unused ≡ over (slice_index_or buffers t (starting_at 0 0))
  over_at [] t = refl
  over_at (b ∷ buffers) zero = refl
  over_at (b ∷ buffers) (suc t) = over_at buffers t

  pub starts : law.Starts f on p
  starts made lows buffers many named held = record {
    stage = refl;
    from = refl;
    copies = refl;
    targets = length-map buffers over ∙ many;
    term = refl;
    leads = refl;
    edges = λ t l. subst (EdgeStands (on (out_edge p t)) (made t) (lows t) (λ c. lows t + 1)) (sym (over_at buffers t))
        (over_stands (on (out_edge p t)) (made t) (lows t) (slice_index_or buffers t (starting_at 0 0)) (named t l).1 (named t l).0 (held t (omega arith)));
  }

  module _ (made : ℕ → ℕ) (x : Producer) (y : ProducerView) where
    there : (t : ℕ) → t < f.targets p.stage → ProducerStands f on p made x y → t < length y.edges
    there t l s = let e = s.targets in omega arith

    pub acks : law.Acks f on p made x y
    acks t upto l s = record {
      stage = s.stage;
      from = s.from;
      copies = s.copies;
      targets = length-set y.edges t (acknowledged (edge_at y t) upto) ∙ s.targets;
      term = s.term;
      leads = s.leads;
      edges = λ j k. with_stands made (acked_to x t upto).lows (acked_to x t upto).cursors y t (acknowledged (edge_at y t) upto) (there t l s)
          (subst (λ b. EdgeStands (on (out_edge p t)) (made t) (if b then max (x.lows t) upto else x.lows t) (λ c. if b then max (x.cursors t c) (max (x.lows t) upto + 1) else x.cursors t c) (acknowledged (edge_at y t) upto))
          (sym (nat_self t)) (acked_stands (on (out_edge p t)) (made t) (x.lows t) upto (x.cursors t) (edge_at y t) (s.edges t l)))
          j
          (λ e. subst (λ b. EdgeStands (on (out_edge p j)) (made j) (if b then max (x.lows t) upto else x.lows j) (λ c. if b then max (x.cursors t c) (max (x.lows t) upto + 1) else x.cursors j c) (edge_at y j))
          (sym e) (s.edges j k));
    }

    rewinds : (t c from : ℕ) → t < f.targets p.stage → c < max_copies → ProducerStands f on p made x y
        → ProducerStands f on p made (machine.rewound x t c from) (with_edge y t (edge.wanted (edge_at y t) c from))
    rewinds t c from l few s = record {
      stage = s.stage;
      from = s.from;
      copies = s.copies;
      targets = length-set y.edges t (edge.wanted (edge_at y t) c from) ∙ s.targets;
      term = s.term;
      leads = s.leads;
      edges = λ j k. with_stands made x.lows (machine.rewound x t c from).cursors y t (edge.wanted (edge_at y t) c from) (there t l s)
          (subst (λ b. EdgeStands (on (out_edge p t)) (made t) (x.lows t) (λ d. if b && (d == c) then min (x.cursors t c) (max from (x.lows t + 1)) else x.cursors t d) (edge.wanted (edge_at y t) c from))
          (sym (nat_self t)) (wanted_stands (on (out_edge p t)) (made t) (x.lows t) from (x.cursors t) c (edge_at y t) few (s.edges t l)))
          j
          (λ e. subst (λ b. EdgeStands (on (out_edge p j)) (made j) (x.lows j) (λ d. if b && (d == c) then min (x.cursors t c) (max from (x.lows t + 1)) else x.cursors j d) (edge_at y j)) (sym e) (s.edges j k));
    }

    pub wants : law.Wants f on p made x y
    wants t c from l few s = go y.leads x.leads s.leads
      where
        go : (a b : Bool) → a ≡ b → ProducerStands f on p made (if b then machine.rewound x t c from else x) (if a then with_edge y t (edge.wanted (edge_at y t) c from) else y)
        go true true e = rewinds t c from l few s
        go false false e = s
        go true false e = let z : ⊥ = cc e in absurd z
        go false true e = let z : ⊥ = cc e in absurd z

    rewound_at : (es : List OutEdgeView) (t : ℕ) → t < length es → slice_index_or (map rewound es) t unused ≡ rewound (slice_index_or es t unused)
    rewound_at [] t l = absurd (omega arith)
    rewound_at (e ∷ es) zero l = refl
    rewound_at (e ∷ es) (suc t) l = rewound_at es t (omega arith)

    pub leads : law.Leads f on p made x y
    leads term s = go (nat_lt y.term term) (nat_lt x.term term) (ap (λ n. nat_lt n term) s.term)
      where
        go : (a b : Bool) → a ≡ b → ProducerStands f on p made (if b then record { lows = x.lows; cursors = λ j c. x.lows j + 1; term = term; leads = true } else x)
            (if a then record y { term = term; leads = true; edges = map rewound y.edges } else y)
        go true true e = record {
          stage = s.stage;
          from = s.from;
          copies = s.copies;
          targets = length-map y.edges rewound ∙ s.targets;
          term = refl;
          leads = refl;
          edges = λ j k. subst (EdgeStands (on (out_edge p j)) (made j) (x.lows j) (λ c. x.lows j + 1)) (sym (rewound_at y.edges j (there j k s)))
              (rewound_stands (on (out_edge p j)) (made j) (x.lows j) (x.cursors j) (edge_at y j) (s.edges j k));
        }
        go false false e = s
        go true false e = let z : ⊥ = cc e in absurd z
        go false true e = let z : ⊥ = cc e in absurd z

    pub emits : law.Emits f on p made x y
    emits t i l at s = record {
      stage = s.stage;
      from = s.from;
      copies = s.copies;
      targets = length-set y.edges t (with_item (edge_at y t) i) ∙ s.targets;
      term = s.term;
      leads = s.leads;
      edges = λ j k. with_stands (with_at made t (made t + 1)) x.lows x.cursors y t (with_item (edge_at y t) i) (there t l s)
          (subst (λ b. EdgeStands (on (out_edge p t)) (if b then made t + 1 else made t) (x.lows t) (x.cursors t) (with_item (edge_at y t) i))
          (sym (nat_self t)) (made_stands (on (out_edge p t)) (made t) (x.lows t) (x.cursors t) (edge_at y t) i (s.edges t l) at))
          j
          (λ e. subst (λ b. EdgeStands (on (out_edge p j)) (if b then made t + 1 else made j) (x.lows j) (x.cursors j) (edge_at y j)) (sym e) (s.edges j k));
    }

  pub makes : law.MakesMore f on p
  makes made later news x y z m next s = record {
    stage = m.stage ∙ s.stage;
    from = m.from ∙ s.from;
    copies = m.copies ∙ s.copies;
    targets = m.targets ∙ s.targets;
    term = m.term ∙ s.term;
    leads = m.leads ∙ s.leads;
    edges = λ t l.
        let n = next t l in
        without_stands (on (out_edge p t)) (later t) (x.lows t) (x.cursors t) (with_items (edge_at y t) (news t)) (edge_at z t) (m.edges t (let e = s.targets in omega arith))
        (more_stands (on (out_edge p t)) (made t) (later t) (x.lows t) (x.cursors t) (edge_at y t) (news t) n.some n.most n.front (s.edges t l));
  }

module _ (f : Flow) (on : EdgeId → List Item) (p : Partition) (few_replicas : f.replicas ≤ max_copies) where
  few_copies : copies f p ≤ max_copies
  few_copies = if_elim (λ n. n ≤ max_copies) (p.stage == f.stages) 1 f.replicas (λ e. omega arith) (λ e. few_replicas)

  -- ---- what is due

  module _ (made : ℕ → ℕ) (x : Producer) (y : ProducerView) where
    copy_due : (t c : ℕ) → EdgeStands (on (out_edge p t)) (made t) (x.lows t) (x.cursors t) (edge_at y t) → cursor_at y t c ≡ x.cursors t c
        → any_due_in (code.due_at y t c) ≡ due_copy (made t) x t c
    copy_due t c s cursor =
        if_some (nat_le (cursor_at y t c) (buffer_at y t).produced) (record { to = t; copy = c; number = cursor_at y t c })
        ∙ (λ i. if nat_le (cursor i) (s.produced i) then Some (record { to = t; copy = c; number = cursor i }) else None)

    copies_due : (t n : ℕ) → n ≤ max_copies → EdgeStands (on (out_edge p t)) (made t) (x.lows t) (x.cursors t) (edge_at y t)
        → any_due_in (code.soonest_below (code.due_at y t) n) ≡ due_copies (made t) x t n
    copies_due t zero few e = refl
    copies_due t (suc n) few e =
        sooner_in (code.soonest_below (code.due_at y t) n) (code.due_at y t n)
        ∙ (λ i. machine.sooner (copies_due t n (omega arith) e i) (copy_due t n e (cursor_is (x.cursors t) (edge_at y t) n (omega arith) e.cursors) i))

    target_due : (t : ℕ) → t < f.targets p.stage → ProducerStands f on p made x y → any_due_in (code.due_to y t) ≡ due_copies (made t) x t (copies f p)
    target_due t l s =
        ap (λ n. any_due_in (code.soonest_below (code.due_at y t) n)) s.copies
        ∙ copies_due t (copies f p) few_copies (s.edges t l)

    below_due : (n : ℕ) → n ≤ f.targets p.stage → ProducerStands f on p made x y → any_due_in (code.soonest_below (code.due_to y) n) ≡ due_below made x (copies f p) n
    below_due zero l s = refl
    below_due (suc n) l s =
        sooner_in (code.soonest_below (code.due_to y) n) (code.due_to y n)
        ∙ (λ i. machine.sooner (below_due n (omega arith) s i) (target_due n (omega arith) s i))

    pub due_is : law.IsDue f on p made x y
    due_is s =
        if_leads y.leads (code.soonest_below (code.due_to y) (length y.edges))
        ∙ (λ i. if s.leads i then any_due_in (code.soonest_below (code.due_to y) (s.targets i)) else None)
        ∙ ap (λ o. if x.leads then o else None) (below_due (f.targets p.stage) (omega arith) s)

  -- ---- sending

  -- what is due is to a replica that is there
  copy_there : (y : ProducerView) (d : Sending) (b : Bool) → y.leads ≡ b → (if b then code.soonest_below (code.due_to y) (length y.edges) else None) ≡ Some d → d.copy < y.copies
  copy_there y d false e found = let z : ⊥ = cc found in absurd z
  copy_there y d true e found = (due_least y (Some d) (sym found)).waits.copy

  module _ (made : ℕ → ℕ) (x : Producer) (y : ProducerView) where
    sends_to : (t w : ℕ) → t < f.targets p.stage → w < max_copies → ProducerStands f on p made x y
        → ProducerStands f on p made (record x { cursors = λ j c. if (j == t) && (c == w) then x.cursors t w + 1 else x.cursors j c }) (with_edge y t (sent (edge_at y t) w))
    sends_to t w l few s = record {
      stage = s.stage;
      from = s.from;
      copies = s.copies;
      targets = length-set y.edges t (sent (edge_at y t) w) ∙ s.targets;
      term = s.term;
      leads = s.leads;
      edges = λ j k. with_stands f on p made x.lows (λ j c. if (j == t) && (c == w) then x.cursors t w + 1 else x.cursors j c) y t (sent (edge_at y t) w) (there f on p made x y t l s)
          (subst (λ b. EdgeStands (on (out_edge p t)) (made t) (x.lows t) (λ c. if b && (c == w) then x.cursors t w + 1 else x.cursors t c) (sent (edge_at y t) w))
          (sym (nat_self t)) (sent_stands (on (out_edge p t)) (made t) (x.lows t) (x.cursors t) w (edge_at y t) few (s.edges t l)))
          j
          (λ e. subst (λ b. EdgeStands (on (out_edge p j)) (made j) (x.lows j) (λ c. if b && (c == w) then x.cursors t w + 1 else x.cursors j c) (edge_at y j)) (sym e) (s.edges j k));
    }

  pub sends : law.Sends f on p
  sends made x y d found s =
      let as_machine : due f p made x ≡ Some (due_in d) = sym (due_is made x y s) ∙ ap any_due_in found in
      let is : IsDue made x (f.targets p.stage) (Some (due_in d)) = subst (IsDue made x (f.targets p.stage)) as_machine (is_due f p made x) in
      let copy : d.copy < y.copies = copy_there y d y.leads refl found in
      let few : y.copies ≤ max_copies = subst (λ n. n ≤ max_copies) (sym s.copies) few_copies in
      let all = sends_to made x y d.to d.copy is.0 (omega arith) s in
      record {
        due = as_machine;
        target = is.0;
        item = λ i e. held_is (on (out_edge p d.to)) (made d.to) (x.lows d.to) (x.cursors d.to) (edge_at y d.to) d.number i (s.edges d.to is.0) e;
        held = λ above most.
            let number : d.number ≡ x.cursors d.to d.copy = is.1 in
            let made_there : d.number ≤ made d.to = is.2 in
            is_held (on (out_edge p d.to)) (made d.to) (x.lows d.to) (x.cursors d.to) (edge_at y d.to) d.number (s.edges d.to is.0) (omega arith) (omega arith) most;
        sent = subst (λ n. ProducerStands f on p made (record x { cursors = λ j c. if (j == d.to) && (c == d.copy) then n + 1 else x.cursors j c }) (sent_on y d.to d.copy)) (sym is.1) all;
      }

pub producers_follow : law.ProducersFollow
producers_follow f on p few = record {
  opens = opens f on p;
  starts = starts f on p;
  contents = contents f on p;
  acks = acks f on p;
  wants = wants f on p;
  leads = leads f on p;
  emits = emits f on p;
  makes = makes f on p;
  due = due_is f on p few;
  sends = sends f on p few;
}

-- the replicas of a pair are no more than a producer knows
pub few_in_pairs : (plan : PlanView) (inputs : List Input) → (flow_of plan inputs).replicas ≤ max_copies
unfolding flow_of
few_in_pairs plan inputs = omega arith

pub few_of_pair : (w : Which) → copy_of w < max_copies
few_of_pair A = omega arith
few_of_pair B = omega arith
