-- The counts of every plan: what is used and made runs up to the whole edges, a merge that has taken all merges all, and the output comes
-- in order.
use Rattle.std.proofs.Common.{[], ◌++◌, Option, None, Some, ◌≡◌, ◌≤◌, ◌<◌, ℕ, zero, suc, Bool, true, false, List, ◌+◌, ◌-◌, ◌⊎◌, inl, inr, refl, sym, ap, ◌∙◌, subst, arith, length, take}
use Rattle.std.specs.Prelude.{count_by, filter, nat_lt, slice_get, ◌&&◌}
use Rattle.std.proofs.lemmas.Bool.{cases_lt, lt-ltb, true≢false}
use Rattle.std.proofs.lemmas.List.{take_all}
use Rattle.std.proofs.lemmas.List.Sums.{count_by-le-length, length-filter}
use Rattle.tuple_edge.specs.declared.item.Item.{Item}
use Rattle.tuple_edge.specs.Input.{Input}
use Rattle.merge_order.specs.Edges.{IsEdge}
use Rattle.merge_order.specs.Merged.{items, items_from}
use Rattle.stream_ops.specs.Answers.{rows_of}
use Rattle.stream_ops.proofs.Counts.{rows_of-append}
use Rattle.plan_reader.specs.Nodes.{parts_of, sources_of}
use Rattle.plan_reader.specs.PlanView.{IsPlan, PlanView}
use Rattle.plan_reader.specs.declared.stage.Stage.{Stage}
use Rattle.pair_machine.specs.Consumers.{all_below, is_ready}
use Rattle.pair_machine.specs.CountLaws.{AllIsMade, AreUsedUp, EdgesAreMergedInOrder, EdgesAreUsedUp, EndedMergeIsWhole, HasTakenAll, IsMerging, OutputComesInOrder, made_for, sent_first}
use Rattle.pair_machine.specs.Counts.{flow_of, items_on, made_at, merged_first, sent_after, used_of}
use Rattle.pair_machine.specs.Edges.{edge, edge_to, edges_into, merged_at}
use Rattle.pair_machine.specs.Flow.{Flow}
use Rattle.pair_machine.specs.Ingress.{last_stamp, sent_by_source}
use Rattle.pair_machine.specs.Numbers.{Consumer, Partition, in_edge}
use Rattle.pair_machine.specs.Output.{output}
use Rattle.pair_machine.proofs.EdgeLengths.{from_one}
use Rattle.pair_machine.proofs.Made.{GoesOn, front_is, front_most, is_upto, none_upto, sent_goes_on, take_goes_on, take_more_goes_on, upto_goes_on, upto_last, upto_rising}
use Rattle.pair_machine.proofs.MadeNext.{make_next, sent_next}
use Rattle.pair_machine.proofs.PlanFlow.{made_most, sent_whole, stage_front}
use Rattle.pair_machine.proofs.EdgeLaws.{each_part_sends, have_the_form, items-length}
use Rattle.pair_machine.proofs.Sending.{edge_to_edge, source_edge}
use Rattle.pair_machine.proofs.Stages.{source_at}
use Rattle.pair_machine.proofs.Used.{count_rising, in_edge_is, into_is, sources_are, used_below, used_whole}
use Rattle.merge_order.proofs.Counts.{stay_in_order}

-- ---- what is used

module _ (plan : PlanView) (inputs : List Input) (is_plan : IsPlan plan) where
  below : (s part q c : ℕ) → 1 ≤ s → s ≤ length plan.stages + 1 → q < sources_of plan s → c < length (merged_at plan inputs s part)
      → used_of plan inputs (record { stage = s; part = part }) q c < length (items_on plan inputs (in_edge (record { stage = s; part = part }) q))
  below zero part q c a b h l = absurd (omega arith)
  below (suc s) part q c a b h l =
      omega (arith, used_below plan inputs is_plan s part q c (omega arith) (omega (arith, sources_are plan s)) l, ap length (in_edge_is plan inputs s part q))

  whole : (s part q : ℕ) → 1 ≤ s → s ≤ length plan.stages + 1 → q < sources_of plan s
      → used_of plan inputs (record { stage = s; part = part }) q (length (merged_at plan inputs s part)) ≡ length (items_on plan inputs (in_edge (record { stage = s; part = part }) q))
  whole zero part q a b h = absurd (omega arith)
  whole (suc s) part q a b h =
      used_whole plan inputs is_plan s part q (omega arith) (omega (arith, sources_are plan s)) ∙ ap length (sym (in_edge_is plan inputs s part q))

pub used_up : EdgesAreUsedUp
unfolding flow_of
used_up plan inputs is_plan = record {
  rising = λ p q fewer more l. count_rising q fewer more (merged_at plan inputs p.stage p.part) l;
  below = λ p q count m h l. below plan inputs is_plan p.stage p.part q count m.first m.last h l;
  whole = λ p q m h. whole plan inputs is_plan p.stage p.part q m.first m.last h;
}

merged_in_order : (plan : PlanView) (inputs : List Input) → IsPlan plan → (s part q c : ℕ) → 1 ≤ s → s ≤ length plan.stages + 1 → q < sources_of plan s
    → items_from q (take c (merged_at plan inputs s part)) ≡ take (used_of plan inputs (record { stage = s; part = part }) q c) (items_on plan inputs (in_edge (record { stage = s; part = part }) q))
merged_in_order plan inputs is_plan zero part q c a b h = absurd (omega arith)
merged_in_order plan inputs is_plan (suc s) part q c a b h =
    let few : q < parts_of plan s = omega (arith, sources_are plan s) in
    stay_in_order (last_stamp inputs) (edges_into plan inputs (suc s) part) (have_the_form plan inputs is_plan s part) q c (omega (arith, each_part_sends plan inputs s part (omega arith), sources_are plan s))
    ∙ ap (take (used_of plan inputs (record { stage = suc s; part = part }) q c)) (into_is plan inputs s part q (omega arith) few ∙ sym (in_edge_is plan inputs s part q))

pub in_their_order : EdgesAreMergedInOrder
unfolding flow_of
in_their_order plan inputs is_plan p q count m h = merged_in_order plan inputs is_plan p.stage p.part q count m.first m.last h

-- ---- what is made

nothing_sent : (stage next : Option Stage) (t : ℕ) → length (sent_after stage next t []) ≡ 0
nothing_sent None next t = refl
nothing_sent (Some stage) None t = refl
nothing_sent (Some stage) (Some next) t = refl

module _ (plan : PlanView) (inputs : List Input) where
  part_none : (s q t : ℕ) → 1 ≤ s → made_at plan inputs s q t 0 ≡ 0
  part_none zero q t a = absurd (omega arith)
  part_none (suc s) q t a = nothing_sent (slice_get plan.stages s) (slice_get plan.stages (suc s)) t

  part_rising : (s q t fewer more : ℕ) → 1 ≤ s → fewer ≤ more → made_at plan inputs s q t fewer ≤ made_at plan inputs s q t more
  part_rising zero q t fewer more a l = absurd (omega arith)
  part_rising (suc s) q t fewer more a l =
      let p : Partition = record { stage = suc s; part = q } in
      let stage = slice_get plan.stages s in
      let next = slice_get plan.stages (suc s) in
      front_most (sent_after stage next t (merged_first plan inputs p fewer)) (sent_after stage next t (merged_first plan inputs p more))
      (sent_goes_on stage next t (merged_first plan inputs p fewer) (merged_first plan inputs p more) (take_more_goes_on fewer more (items (merged_at plan inputs (suc s) q)) l))

  part_whole : (s q t : ℕ) → 1 ≤ s → s ≤ length plan.stages → q < sources_of plan (s + 1) → made_at plan inputs s q t (length (merged_at plan inputs s q)) ≡ length (edge plan inputs s q t)
  part_whole zero q t a b h = absurd (omega arith)
  part_whole (suc s) q t a b h =
      let places = merged_at plan inputs (suc s) q in
      let there : q < parts_of plan (suc s) = (let next : suc s + 1 - 1 ≡ suc s = omega arith in subst (λ n. q < parts_of plan n) next h) in
      ap (λ x. length (sent_after (slice_get plan.stages s) (slice_get plan.stages (suc s)) t x)) (take_all (length places) (items places) (omega (arith, items-length places)))
      ∙ ap length (sent_whole plan inputs s q t (omega arith) there)

  part_front : (s q t c : ℕ) → 1 ≤ s → s ≤ length plan.stages → q < sources_of plan (s + 1)
      → take (made_at plan inputs s q t c) (edge plan inputs s q t) ≡ sent_first plan inputs (record { stage = s; part = q }) t c
  part_front zero q t c a b h = absurd (omega arith)
  part_front (suc s) q t c a b h =
      let given = merged_first plan inputs (record { stage = suc s; part = q }) c in
      let there : q < parts_of plan (suc s) = (let next : suc s + 1 - 1 ≡ suc s = omega arith in subst (λ n. q < parts_of plan n) next h) in
      let before : s ≡ suc s - 1 = omega arith in
      front_is (sent_after (slice_get plan.stages s) (slice_get plan.stages (suc s)) t given) (edge plan inputs (suc s) q t) (stage_front plan inputs s q t c (omega arith) there)
      ∙ ap (λ n. sent_after (slice_get plan.stages n) (slice_get plan.stages (suc s)) t given) before

  part_most : (s q t c : ℕ) → 1 ≤ s → s ≤ length plan.stages → q < sources_of plan (s + 1) → made_at plan inputs s q t c ≤ length (edge plan inputs s q t)
  part_most s q t c a b h = made_most plan inputs s q t c a b h

  -- the edge from a source of ingress to a target
  module _ (q t : ℕ) (here : q < plan.version) where
    abbrev sent_on : List Item
    sent_on = edge plan inputs 0 q t

    first_is : sent_on ≡ edge_to (slice_get plan.stages 0) t (sent_by_source plan inputs q)
    first_is = ap (edge_to (slice_get plan.stages 0) t) (source_at plan inputs q here)

    -- it has the form of an edge
    first_edge : IsEdge (last_stamp inputs) sent_on
    first_edge = subst (IsEdge (last_stamp inputs)) (sym first_is) (edge_to_edge (slice_get plan.stages 0) t (last_stamp inputs) (sent_by_source plan inputs q) (source_edge plan inputs q))

    makes_none : count_by (is_upto 0) sent_on ≡ 0
    makes_none = sym (length-filter (is_upto 0) sent_on) ∙ ap length (none_upto 0 1 sent_on (omega arith) (from_one (last_stamp inputs) sent_on first_edge))

    makes_whole : count_by (is_upto (last_stamp inputs)) sent_on ≡ length sent_on
    makes_whole = sym (length-filter (is_upto (last_stamp inputs)) sent_on) ∙ ap length (upto_last (last_stamp inputs) sent_on first_edge)

    makes_front : (m : ℕ) → take (count_by (is_upto m) sent_on) sent_on ≡ filter (is_upto m) sent_on
    makes_front m = ap (λ n. take n sent_on) (sym (length-filter (is_upto m) sent_on)) ∙ front_is (filter (is_upto m) sent_on) sent_on (upto_goes_on (last_stamp inputs) m sent_on first_edge)

    makes_next : (m : ℕ) → m ≤ length inputs → filter (is_upto (m + 1)) sent_on ≡ filter (is_upto m) sent_on ++ edge_to (slice_get plan.stages 0) t (made_for q plan.mark (m + 1) (slice_get inputs m))
    makes_next m l =
        subst (λ is. filter (is_upto (m + 1)) is ≡ filter (is_upto m) is ++ edge_to (slice_get plan.stages 0) t (made_for q plan.mark (m + 1) (slice_get inputs m))) (sym first_is)
        (make_next (slice_get plan.stages 0) t q plan.mark m inputs l)

pub all_made : AllIsMade
unfolding flow_of
all_made plan inputs is_plan = record {
  by_parts = λ p t here. record {
    none = part_none plan inputs p.stage p.part t here.first;
    rising = λ fewer more l. part_rising plan inputs p.stage p.part t fewer more here.first l;
    most = λ count. part_most plan inputs p.stage p.part t count here.first here.last here.part;
    whole = part_whole plan inputs p.stage p.part t here.first here.last here.part;
    front = λ count. part_front plan inputs p.stage p.part t count here.first here.last here.part;
    next = λ count i e. sent_next (slice_get plan.stages (p.stage - 1)) (slice_get plan.stages p.stage) t count (items (merged_at plan inputs p.stage p.part)) i e;
  };
  by_ingress = λ q t here. record {
    none = makes_none plan inputs q t here;
    rising = λ fewer more l. upto_rising fewer more (edge plan inputs 0 q t) l;
    most = λ makes. count_by-le-length (is_upto makes) (edge plan inputs 0 q t);
    whole = makes_whole plan inputs q t here;
    front = λ makes. makes_front plan inputs q t here makes;
    next = λ makes l. makes_next plan inputs q t here makes (omega arith);
  };
}

-- ---- where a merge ends

all_true : (n : ℕ) (test : ℕ → Bool) → ((q : ℕ) → q < n → test q ≡ true) → all_below n test ≡ true
all_true zero test h = refl
all_true (suc n) test h = λ i. all_true n test (λ q l. h q (omega arith)) i && h n (omega arith) i

ready : (f : Flow) → AreUsedUp f → (p : Partition) (c : Consumer) → IsMerging f p → HasTakenAll f p c → c.count < f.total p → is_ready f p c ≡ true
ready f used p c m all l =
    all_true (f.sources p.stage) (λ q. nat_lt (f.used p q c.count) (c.marks q))
    (λ q h. lt-ltb (f.used p q c.count) (c.marks q) (omega (arith, used.below p q c.count m h l, all q h)))

ended : (f : Flow) → AreUsedUp f → (p : Partition) (c : Consumer) → IsMerging f p → HasTakenAll f p c → c.count ≤ f.total p → is_ready f p c ≡ false → c.count ≡ f.total p
ended f used p c m all l stops = by (cases_lt c.count (f.total p))
  where
    by : (c.count < f.total p) ⊎ (f.total p ≤ c.count) → c.count ≡ f.total p
    by (inl h) = absurd (true≢false (sym (ready f used p c m all h) ∙ stops))
    by (inr h) = omega arith

pub to_the_end : EndedMergeIsWhole
to_the_end plan inputs is_plan = record { ready = ready (flow_of plan inputs) (used_up plan inputs is_plan); ended = ended (flow_of plan inputs) (used_up plan inputs is_plan) }

-- ---- the output

rows_go_on : (front whole : List Item) → GoesOn front whole → GoesOn (rows_of front) (rows_of whole)
rows_go_on front whole g = record { rest = rows_of g.rest; is = ap rows_of g.is ∙ rows_of-append front g.rest }

module _ (plan : PlanView) (inputs : List Input) where
  -- the items that come to egress, which is the partition after the last stage
  at_egress : (s : ℕ) → s ≡ suc (length plan.stages) → rows_of (items (merged_at plan inputs s 0)) ≡ output plan inputs
  at_egress s e = ap (λ n. rows_of (items (merged_at plan inputs n 0))) e

  first_rows : (s c : ℕ) → s ≡ suc (length plan.stages)
      → rows_of (take c (items (merged_at plan inputs s 0))) ≡ take (length (rows_of (take c (items (merged_at plan inputs s 0))))) (output plan inputs)
  first_rows s c e =
      let whole = items (merged_at plan inputs s 0) in
      let first = rows_of (take c whole) in
      sym (front_is first (rows_of whole) (rows_go_on (take c whole) whole (take_goes_on c whole))) ∙ ap (take (length first)) (at_egress s e)

  all_rows : (s : ℕ) → s ≡ suc (length plan.stages) → rows_of (take (length (merged_at plan inputs s 0)) (items (merged_at plan inputs s 0))) ≡ output plan inputs
  all_rows s e =
      let places = merged_at plan inputs s 0 in
      ap rows_of (take_all (length places) (items places) (omega (arith, items-length places))) ∙ at_egress s e

pub in_order : OutputComesInOrder
unfolding flow_of
in_order plan inputs =
    let last : length plan.stages + 1 ≡ suc (length plan.stages) = omega arith in
    record { front = λ count. first_rows plan inputs (length plan.stages + 1) count last; whole = all_rows plan inputs (length plan.stages + 1) last }
