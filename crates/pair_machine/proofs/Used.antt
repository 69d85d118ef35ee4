-- How many items of the edges into a partition stand among its first merged items: some are left as long as the merged list goes on, and
-- none where it ends.
use Rattle.std.proofs.Common.{◌≡◌, ◌≤◌, ◌<◌, ℕ, zero, suc, List, [], ◌∷◌, ◌+◌, ◌-◌, ◌⊎◌, inl, inr, sym, ap, ◌∙◌, arith, get_or, length, take}
use Rattle.std.specs.Prelude.{slice_get, if◌then◌else◌}
use Rattle.std.proofs.lemmas.Bool.{cases_lt}
use Rattle.std.proofs.lemmas.List.{get_or-map, take_all}
use Rattle.std.proofs.lemmas.List.Sums.{sum_by-append, sum_by-cons}
use Rattle.tuple_edge.specs.Input.{Input}
use Rattle.merge_order.specs.Counts.{UsesAll}
use Rattle.merge_order.specs.Merged.{Place, count_of, is_from}
use Rattle.merge_order.proofs.Choices.{if_elim}
use Rattle.merge_order.proofs.Counts.{all_are_used}
use Rattle.plan_reader.specs.Nodes.{parts_of, sources_of}
use Rattle.plan_reader.specs.PlanView.{IsPlan, PlanView}
use Rattle.pair_machine.specs.Counts.{items_on, used_of}
use Rattle.pair_machine.specs.Edges.{edge, edge_to, edges_into, merged_at, sent_by}
use Rattle.pair_machine.specs.Ingress.{last_stamp}
use Rattle.pair_machine.specs.Numbers.{Partition, in_edge}
use Rattle.pair_machine.proofs.Made.{take_more_goes_on}
use Rattle.pair_machine.proofs.EdgeLaws.{each_part_sends, have_the_form, sent_length}

-- ---- one more place holds at most one item of an edge

pub count_next : (q c : ℕ) (places : List Place) → count_of q (take (suc c) places) ≤ count_of q (take c places) + 1
count_next q zero [] = omega arith
count_next q (suc c) [] = omega arith
count_next q zero (x ∷ xs) =
    let here = sum_by-cons (λ place. if is_from q place.source then 1 else 0) x [] in
    if_elim (λ k. count_of q (x ∷ []) ≡ k + 0 → count_of q (x ∷ []) ≤ 0 + 1) (is_from q x.source) 1 0 (λ b e. omega arith) (λ b e. omega arith) here
count_next q (suc c) (x ∷ xs) =
    let f : Place → ℕ = λ place. if is_from q place.source then 1 else 0 in
    omega (arith, sum_by-cons f x (take (suc c) xs), sum_by-cons f x (take c xs), count_next q c xs)

pub count_rising : (q fewer more : ℕ) (places : List Place) → fewer ≤ more → count_of q (take fewer places) ≤ count_of q (take more places)
count_rising q fewer more places l =
    let on = take_more_goes_on fewer more places l in
    let f : Place → ℕ = λ place. if is_from q place.source then 1 else 0 in
    omega (arith, ap (count_of q) on.is, sum_by-append f (take fewer places) on.rest)

-- ---- the edges into a partition are those of its sources

module _ (plan : PlanView) (inputs : List Input) where
  -- a partition of the stage after stage s
  abbrev after : ℕ → ℕ → Partition
  after s part = record { stage = suc s; part = part }

  pub into_is : (s part q : ℕ) → s ≤ length plan.stages → q < parts_of plan s → get_or (edges_into plan inputs (suc s) part) q [] ≡ edge plan inputs s q part
  into_is s part q l h =
      get_or-map (edge_to (slice_get plan.stages s) part) (sent_by plan inputs s) q [] [] (omega (arith, sent_length plan inputs s l))

  module _ (is_plan : IsPlan plan) where
    uses : (s part : ℕ) → UsesAll (last_stamp inputs) (edges_into plan inputs (suc s) part)
    uses s part = all_are_used (last_stamp inputs) (edges_into plan inputs (suc s) part) (have_the_form plan inputs is_plan s part)

    pub used_below : (s part q c : ℕ) → s ≤ length plan.stages → q < parts_of plan s → c < length (merged_at plan inputs (suc s) part)
        → used_of plan inputs (after s part) q c < length (edge plan inputs s q part)
    used_below s part q c l h more =
        omega (arith, (uses s part).below q c (omega (arith, each_part_sends plan inputs s part l)) more, ap length (into_is s part q l h))

    pub used_whole : (s part q : ℕ) → s ≤ length plan.stages → q < parts_of plan s
        → used_of plan inputs (after s part) q (length (merged_at plan inputs (suc s) part)) ≡ length (edge plan inputs s q part)
    used_whole s part q l h =
        (uses s part).whole q (omega (arith, each_part_sends plan inputs s part l)) ∙ ap length (into_is s part q l h)

    -- past the end of the merged list no more is used
    used_past : (s part q c : ℕ) → length (merged_at plan inputs (suc s) part) ≤ c
        → used_of plan inputs (after s part) q c ≡ used_of plan inputs (after s part) q (length (merged_at plan inputs (suc s) part))
    used_past s part q c l =
        let places = merged_at plan inputs (suc s) part in
        ap (count_of q) (take_all c places l ∙ sym (take_all (length places) places (omega arith)))

    -- each partition has an edge
    some_source : (s : ℕ) → s ≤ length plan.stages → 1 ≤ parts_of plan s
    some_source s l = omega (arith, each_part_sends plan inputs s 0 l, (have_the_form plan inputs is_plan s 0).some)

    -- where no edge is used up, the merged list goes on
    pub merged_goes_on : (s part c : ℕ) → s ≤ length plan.stages → ((q : ℕ) → q < parts_of plan s → used_of plan inputs (after s part) q c < length (edge plan inputs s q part))
        → c < length (merged_at plan inputs (suc s) part)
    merged_goes_on s part c l left = by (cases_lt c (length (merged_at plan inputs (suc s) part)))
      where
        by : (c < length (merged_at plan inputs (suc s) part)) ⊎ (length (merged_at plan inputs (suc s) part) ≤ c) → c < length (merged_at plan inputs (suc s) part)
        by (inl h) = h
        by (inr h) = absurd (omega (arith, left 0 (some_source s l), used_past s part 0 c h, used_whole s part 0 l (some_source s l)))

-- ---- by partitions

-- an edge into a partition leads from the stage before
pub in_edge_is : (plan : PlanView) (inputs : List Input) (s part q : ℕ) → items_on plan inputs (in_edge (record { stage = suc s; part = part }) q) ≡ edge plan inputs s q part
in_edge_is plan inputs s part q = let before : suc s - 1 ≡ s = omega arith in ap (λ n. edge plan inputs n q part) before

pub sources_are : (plan : PlanView) (s : ℕ) → sources_of plan (suc s) ≡ parts_of plan s
sources_are plan s = let before : suc s - 1 ≡ s = omega arith in ap (parts_of plan) before
