-- Each call of a consumer in code is what the machine's consumer does.
use Rattle.std.proofs.Common.{◌≡◌, ◌<◌, ◌≤◌, ◌+◌, ◌-◌, ◌⊎◌, inl, inr, ℕ, zero, suc, Bool, true, false, IsTrue, List, [], ◌∷◌, Option, None, Some, drop, get_or, length, map, take, refl, sym, ap, ◌∙◌, subst, arith}
use Rattle.std.specs.Prelude.{◌==◌, ◌&&◌, if◌then◌else◌, nat_lt, slice_get, slice_index, slice_set, replicate}
use Rattle.std.specs.Option.{option_or}
use Rattle.std.proofs.Math.ListN.{length-set}
use Rattle.std.proofs.lemmas.Bool.{eqb-true, eq-eqb, ltb-true, lt-ltb}
use Rattle.std.proofs.lemmas.List.{get_or-set_same, get_or-set_other, length-replicate}
use Rattle.tuple_edge.specs.declared.item.Item.{Item}
use Rattle.tuple_edge.specs.Input.{Input}
use Rattle.merge_order.specs.Edges.{AreEdges, edge_of, item_at}
use Rattle.merge_order.specs.Merged.{items}
use Rattle.merge_order.specs.MergeView.{after_offer, all_wait, mark_of, with_item}
use Rattle.merge_order.specs.StandsFor.{StandsFor}
use Rattle.merge_order.proofs.AfterNext.{after_next-marks, after_next-count}
use Rattle.merge_order.proofs.Heads.{known_is}
use Rattle.merge_order.proofs.RunLaw.{opening_stands}
use Rattle.merge_order.proofs.Standing.{StandsAt, next_in_order, next_stands, offer_stands, ready_is}
use Rattle.flux_consumer.specs.ConsumerView.{ConsumerView, over, report_at, report_below, report_of, told_of, with_merge}
use Rattle.flux_consumer.specs.ConsumerView as code
use Rattle.plan_reader.specs.Nodes.{parts_of, sources_of}
use Rattle.plan_reader.specs.PlanView.{IsPlan, PlanView}
use Rattle.pair_machine.specs.Consumers.{all_below, first_below, pulled, telling, untold, with_at}
use Rattle.pair_machine.specs.CountLaws.{IsMerging}
use Rattle.pair_machine.specs.Counts.{flow_of, items_on, used_of}
use Rattle.pair_machine.specs.Edges.{edge, edge_to, edges_into, merged_at, sent_by}
use Rattle.pair_machine.specs.Ingress.{last_stamp}
use Rattle.pair_machine.specs.Numbers.{Consumer, Partition, in_edge}
use Rattle.pair_machine.proofs.EdgeLaws.{each_part_sends, have_the_form, sent_length}
use Rattle.pair_machine.proofs.Found.{FoundIn, first_found}
use Rattle.pair_machine.proofs.Tests.{both, nat_self}
use Rattle.pair_machine.proofs.Used.{in_edge_is, sources_are}
use Rattle.node_edges.specs.InEdges.{ConsumerStands, edge_in}
use Rattle.node_edges.specs.ConsumerLaws as law

-- ---- the edges into a partition

at_map : {X Y : Type 0} (f : X → Y) (xs : List X) (q : ℕ) (d : X) (e : Y) → q < length xs → get_or (map f xs) q e ≡ f (get_or xs q d)
at_map f [] q d e l = absurd (omega arith)
at_map f (x ∷ xs) zero d e l = refl
at_map f (x ∷ xs) (suc q) d e l = at_map f xs q d e (omega arith)

edge_into : (plan : PlanView) (inputs : List Input) (s part q : ℕ) → s ≤ length plan.stages → q < parts_of plan s → edge_of (edges_into plan inputs (suc s) part) q ≡ edge plan inputs s q part
edge_into plan inputs s part q l k =
    at_map (edge_to (slice_get plan.stages s) part) (sent_by plan inputs s) q [] [] (let e = sent_length plan inputs s l in omega arith)

-- an edge into a partition that merges, by its source
edge_is : (plan : PlanView) (inputs : List Input) (s part q : ℕ) → 1 ≤ s → s ≤ length plan.stages + 1 → q < sources_of plan s
    → edge_of (edges_into plan inputs s part) q ≡ items_on plan inputs (in_edge (record { stage = s; part = part }) q)
edge_is plan inputs zero part q one l k = absurd (omega arith)
edge_is plan inputs (suc s) part q one l k =
    edge_into plan inputs s part q (omega arith) (subst (λ n. q < n) (sources_are plan s) k) ∙ sym (in_edge_is plan inputs s part q)

pub form_is : (plan : PlanView) (inputs : List Input) → IsPlan plan → (s part : ℕ) → 1 ≤ s → AreEdges (last_stamp inputs) (edges_into plan inputs s part)
form_is plan inputs is zero part one = absurd (omega arith)
form_is plan inputs is (suc s) part one = have_the_form plan inputs is s part

pub many_are : (plan : PlanView) (inputs : List Input) (s part : ℕ) → 1 ≤ s → s ≤ length plan.stages + 1 → length (edges_into plan inputs s part) ≡ sources_of plan s
many_are plan inputs zero part one l = absurd (omega arith)
many_are plan inputs (suc s) part one l = each_part_sends plan inputs s part (omega arith) ∙ sym (sources_are plan s)

stages_are : (plan : PlanView) (inputs : List Input) (p : Partition) → IsMerging (flow_of plan inputs) p → p.stage ≤ length plan.stages + 1
unfolding flow_of
stages_are plan inputs p m = m.last

-- ---- tests

same_bool : (a b : Bool) → (IsTrue a → b ≡ true) → (b ≡ true → IsTrue a) → a ≡ b
same_bool true true f g = refl
same_bool false false f g = refl
same_bool true false f g = sym (f refl)
same_bool false true f g = g refl

all_true : (n : ℕ) (test : ℕ → Bool) → ((q : ℕ) → q < n → test q ≡ true) → all_below n test ≡ true
all_true zero test h = refl
all_true (suc n) test h = λ i. all_true n test (λ q l. h q (omega arith)) i && h n (omega arith) i

each_true : (n : ℕ) (test : ℕ → Bool) → all_below n test ≡ true → (q : ℕ) → q < n → test q ≡ true
each_true zero test e q l = absurd (omega arith)
each_true (suc n) test e q l = by (both (all_below n test) (test n) e) (below_or q n l) (λ h k. each_true n test h q k)
  where
    below_or : (q n : ℕ) → q < suc n → (q < n) ⊎ (n ≡ q)
    below_or zero zero h = inr refl
    below_or zero (suc n) h = inl (omega arith)
    below_or (suc q) zero h = absurd (omega arith)
    below_or (suc q) (suc n) h = elim (below_or q n (omega arith)) [ inl l ↦ inl (omega arith) | inr e ↦ inr (ap suc e) ]

    by : (all_below n test ≡ true) × (test n ≡ true) → (q < n) ⊎ (n ≡ q) → (all_below n test ≡ true → q < n → test q ≡ true) → test q ≡ true
    by h (inl k) before = before h.0 k
    by h (inr same) before = subst (λ j. test j ≡ true) same h.1

zero_at : (n q : ℕ) → slice_index (replicate n 0) q ≡ 0
zero_at zero q = refl
zero_at (suc n) zero = refl
zero_at (suc n) (suc q) = zero_at n q

module _ (plan : PlanView) (inputs : List Input) (p : Partition) where
  pub begins : law.Begins plan inputs p
  begins is m =
      let all = stages_are plan inputs p m in
      let many = many_are plan inputs p.stage p.part m.first all in
      record {
        edges = length-replicate (sources_of plan p.stage) 0;
        listed = length-replicate (length (replicate (sources_of plan p.stage) 0)) 0;
        merge = opening_stands (last_stamp inputs) (edges_into plan inputs p.stage p.part) (sources_of plan p.stage) (form_is plan inputs is p.stage p.part m.first) many;
        count = refl;
        marks = λ q l. zero_at (sources_of plan p.stage) q;
        told = λ q l. zero_at (length (replicate (sources_of plan p.stage) 0)) q;
      }

  pub starts : law.Starts plan inputs p
  starts marks merge many s at = record {
    edges = many;
    listed = length-replicate (length merge.marks) 0;
    merge = s;
    count = refl;
    marks = at;
    told = λ q l. zero_at (length merge.marks) q;
  }

  module _ (x : Consumer) (y : ConsumerView) where
    source_there : (q : ℕ) → q < sources_of plan p.stage → ConsumerStands plan inputs p x y → q < length y.merge.marks
    source_there q l s = let e = s.edges in omega arith

    edge_there : (q : ℕ) → q < sources_of plan p.stage → ConsumerStands plan inputs p x y → q < length (edges_into plan inputs p.stage p.part)
    edge_there q l s = let e = s.edges in let k = s.merge.marks in omega arith

    edge_at : (q : ℕ) → IsMerging (flow_of plan inputs) p → q < sources_of plan p.stage → edge_of (edges_into plan inputs p.stage p.part) q ≡ items_on plan inputs (in_edge p q)
    edge_at q m l = edge_is plan inputs p.stage p.part q m.first (stages_are plan inputs p m) l

    pub waits : law.Waits plan inputs p x y
    waits q m l s =
        let w = s.merge.waits q (edge_there q l s) in
        w.waits ∙ (λ i. take (s.marks q l i - used_of plan inputs p q (s.count i)) (drop (used_of plan inputs p q (s.count i)) (edge_at q m l i)))

    -- ---- offers

    taken_stands : (q n : ℕ) (i : Item) → q < sources_of plan p.stage → ConsumerStands plan inputs p x y
        → StandsFor (last_stamp inputs) (edges_into plan inputs p.stage p.part) (with_item y.merge q n i)
        → ConsumerStands plan inputs p (record x { marks = with_at x.marks q n }) (with_merge y (with_item y.merge q n i))
    taken_stands q n i l s m = record {
      edges = length-set y.merge.marks q n ∙ s.edges;
      listed = s.listed ∙ sym (length-set y.merge.marks q n);
      merge = m;
      count = s.count;
      marks = λ j k. go j k (j == q) refl;
      told = s.told;
    }
      where
        go : (j : ℕ) → j < sources_of plan p.stage → (b : Bool) → (j == q) ≡ b → get_or (slice_set y.merge.marks q n) j 0 ≡ (if b then n else x.marks j)
        go j k true same = ap (λ z. get_or (slice_set y.merge.marks q n) z 0) (eqb-true j q same) ∙ get_or-set_same y.merge.marks q n 0 (source_there q l s)
        go j k false not = get_or-set_other y.merge.marks q j n 0 (λ at. let z : true ≡ false = sym (eq-eqb j q at) ∙ not in cc) ∙ s.marks j k

    pub offers : law.Offers plan inputs p x y
    offers q n i m l item s =
        go (n == mark_of y.merge q + 1) (n == x.marks q + 1) (ap (λ k. n == k + 1) (s.marks q l))
        (offer_stands (last_stamp inputs) (edges_into plan inputs p.stage p.part) y.merge q n i s.merge (source_there q l s)
        (λ e. subst (λ es. item_at es n ≡ Some i) (sym (edge_at q m l)) (item (e ∙ ap (λ k. k + 1) (s.marks q l)))))
      where
        go : (a b : Bool) → a ≡ b → StandsFor (last_stamp inputs) (edges_into plan inputs p.stage p.part) (if a then with_item y.merge q n i else y.merge)
            → ConsumerStands plan inputs p (if b then record x { marks = with_at x.marks q n } else x) (with_merge y (if a then with_item y.merge q n i else y.merge))
        go true true e h = taken_stands q n i l s h
        go false false e h = s
        go true false e h = let z : ⊥ = cc e in absurd z
        go false true e h = let z : ⊥ = cc e in absurd z

    pub pulls : law.PullsOne plan inputs p x y
    pulls q i m l item s =
        let same = s.marks q l in
        subst (λ n. ConsumerStands plan inputs p (pulled x q) (with_merge y (after_offer y.merge q (n + 1) i))) (sym same)
        (subst (λ b. ConsumerStands plan inputs p (if b then record x { marks = with_at x.marks q (x.marks q + 1) } else x) (with_merge y (after_offer y.merge q (x.marks q + 1) i))) (nat_self (x.marks q + 1))
        (offers q (x.marks q + 1) i m l (λ e. item) s))

    -- ---- the merged list

    ready_by : (sources : ℕ) → sources ≡ sources_of plan p.stage → ConsumerStands plan inputs p x y
        → all_wait y.merge.waiting ≡ all_below sources (λ q. nat_lt (used_of plan inputs p q x.count) (x.marks q))
    ready_by sources e s =
        let is = ready_is (last_stamp inputs) (edges_into plan inputs p.stage p.part) y.merge s.merge in
        let many : length (edges_into plan inputs p.stage p.part) ≡ sources = sym s.merge.marks ∙ s.edges ∙ sym e in
        same_bool (all_wait y.merge.waiting) (all_below sources (λ q. nat_lt (used_of plan inputs p q x.count) (x.marks q)))
        (λ t. all_true sources (λ q. nat_lt (used_of plan inputs p q x.count) (x.marks q))
        (λ q l. lt-ltb (used_of plan inputs p q x.count) (x.marks q)
        (subst (λ n. used_of plan inputs p q n < x.marks q) s.count (subst (λ n. used_of plan inputs p q y.merge.count < n) (s.marks q (omega arith)) (is.0 t q (omega arith))))))
        (λ t. is.1 (λ q l.
        let here = ltb-true (used_of plan inputs p q x.count) (x.marks q) (each_true sources (λ q. nat_lt (used_of plan inputs p q x.count) (x.marks q)) t q (omega arith)) in
        subst (λ n. used_of plan inputs p q n < mark_of y.merge q) (sym s.count) (subst (λ n. used_of plan inputs p q x.count < n) (sym (s.marks q (omega arith))) here)))

    pub ready : law.IsReadySo plan inputs p x y
    unfolding flow_of
    ready s = ready_by (sources_of plan p.stage) refl s

    pub gives : law.Gives plan inputs p x y
    gives is m s =
        let some : 1 ≤ length y.merge.waiting = let a = (form_is plan inputs is p.stage p.part m.first).some in let b = s.merge.waiting in omega arith in
        known_is y.merge.waiting some ∙ ready s

    pub merges : law.Merges plan inputs p x y
    merges i is m found s =
        let last = last_stamp inputs in
        let es = edges_into plan inputs p.stage p.part in
        let form = form_is plan inputs is p.stage p.part m.first in
        let at = subst (StandsAt last es y.merge.count) found (next_in_order last es y.merge form s.merge) in
        let marks = after_next-marks y.merge in (
          subst (λ n. slice_get (items (merged_at plan inputs p.stage p.part)) n ≡ Some i) s.count at,
          record {
            edges = ap length marks ∙ s.edges;
            listed = s.listed ∙ sym (ap length marks);
            merge = next_stands last es y.merge form s.merge;
            count = after_next-count y.merge i found ∙ ap (λ n. n + 1) s.count;
            marks = λ q l. ap (λ ms. get_or ms q 0) marks ∙ s.marks q l;
            told = s.told;
          },
        )

    -- ---- reports

    edge_in_or : (a b : Option (ℕ × ℕ)) → edge_in (option_or a b) ≡ option_or (edge_in a) (edge_in b)
    edge_in_or None b = refl
    edge_in_or (Some a) b = refl

    edge_in_if : (b : Bool) (q mark : ℕ) → edge_in (if b then Some (q, mark) else None) ≡ (if b then Some q else None)
    edge_in_if true q mark = refl
    edge_in_if false q mark = refl

    report_in : (n : ℕ) → n ≤ sources_of plan p.stage → ConsumerStands plan inputs p x y → edge_in (report_below y n) ≡ first_below (λ q. nat_lt (x.told q) (x.marks q)) n
    report_in zero l s = refl
    report_in (suc n) l s =
        edge_in_or (report_below y n) (report_at y n)
        ∙ (λ i. option_or (report_in n (omega arith) s i) (edge_in_if (nat_lt (told_of y n) (mark_of y.merge n)) n (mark_of y.merge n) i))
        ∙ (λ i. option_or (first_below (λ q. nat_lt (x.told q) (x.marks q)) n) (if nat_lt (s.told n (omega arith) i) (s.marks n (omega arith) i) then Some n else None))

    pub reports : law.ReportsSo plan inputs p x y
    unfolding flow_of
    reports s = ap (λ n. edge_in (report_below y n)) s.edges ∙ report_in (sources_of plan p.stage) (omega arith) s

    mark_reported : (n : ℕ) (report : ℕ × ℕ) → report_below y n ≡ Some report → report.1 ≡ mark_of y.merge report.0
    mark_reported zero report e = let z : ⊥ = cc e in absurd z
    mark_reported (suc n) report e = go (report_below y n) refl (nat_lt (told_of y n) (mark_of y.merge n)) e (λ before. mark_reported n report before)
      where
        go : (o : Option (ℕ × ℕ)) → report_below y n ≡ o → (b : Bool) → option_or o (if b then Some (n, mark_of y.merge n) else None) ≡ Some report
            → (report_below y n ≡ Some report → report.1 ≡ mark_of y.merge report.0) → report.1 ≡ mark_of y.merge report.0
        go (Some found) at b e before = before (at ∙ e)
        go None at true e before = let same : (n, mark_of y.merge n) ≡ report = cc e in subst (λ (r : ℕ × ℕ). r.1 ≡ mark_of y.merge r.0) same refl
        go None at false e before = let z : ⊥ = cc e in absurd z

    told_stands : (q : ℕ) → q < sources_of plan p.stage → ConsumerStands plan inputs p x y → ConsumerStands plan inputs p (telling x q) (code.telling y q)
    told_stands q l s = record {
      edges = s.edges;
      listed = length-set y.told q (mark_of y.merge q) ∙ s.listed;
      merge = s.merge;
      count = s.count;
      marks = s.marks;
      told = λ j k. go j k (j == q) refl;
    }
      where
        go : (j : ℕ) → j < sources_of plan p.stage → (b : Bool) → (j == q) ≡ b → slice_index (slice_set y.told q (mark_of y.merge q)) j ≡ (if b then x.marks q else x.told j)
        go j k true same = ap (λ z. slice_index (slice_set y.told q (mark_of y.merge q)) z) (eqb-true j q same)
            ∙ get_or-set_same y.told q (mark_of y.merge q) 0 (let a = s.listed in let b = s.edges in omega arith) ∙ s.marks q l
        go j k false not = get_or-set_other y.told q j (mark_of y.merge q) 0 (λ at. let z : true ≡ false = sym (eq-eqb j q at) ∙ not in cc) ∙ s.told j k

    pub tells : law.Tells plan inputs p x y
    unfolding flow_of
    tells report found s =
        let first : untold (flow_of plan inputs) p x ≡ Some report.0 = sym (reports s) ∙ ap edge_in found in
        let at : FoundIn (λ q. nat_lt (x.told q) (x.marks q)) (sources_of plan p.stage) (Some report.0) =
        subst (FoundIn (λ q. nat_lt (x.told q) (x.marks q)) (sources_of plan p.stage)) first (first_found (sources_of plan p.stage) (λ q. nat_lt (x.told q) (x.marks q))) in
        record {
          first = first;
          source = at.1;
          mark = mark_reported (length y.merge.marks) report found ∙ s.marks report.0 at.1;
          told = told_stands report.0 at.1 s;
        }

pub consumers_follow : law.ConsumersFollow
consumers_follow plan rows p = record {
  begins = begins plan rows p;
  starts = starts plan rows p;
  waits = waits plan rows p;
  offers = offers plan rows p;
  pulls = pulls plan rows p;
  ready = ready plan rows p;
  gives = gives plan rows p;
  merges = merges plan rows p;
  reports = reports plan rows p;
  tells = tells plan rows p;
}
