-- The numbers of every plan within its limits are a flow, whatever the trades.
use Rattle.std.proofs.Common.{◌≡◌, ◌≤◌, ◌<◌, ℕ, zero, suc, List, [], ◌∷◌, ◌++◌, ◌+◌, ◌-◌, refl, sym, ap, ◌∙◌, subst, arith, length, map, get_or}
use Rattle.std.specs.Prelude.{slice_get}
use Rattle.std.proofs.lemmas.List.Sums.{count_by-le-length}
use Rattle.tuple_edge.specs.Input.{Input}
use Rattle.merge_order.specs.Merged.{items}
use Rattle.plan_reader.specs.Nodes.{parts_of, sources_of}
use Rattle.plan_reader.specs.PlanView.{IsPlan, PlanView}
use Rattle.plan_reader.specs.declared.stage.Stage.{Stage}
use Rattle.pair_machine.specs.Counts.{flow_of, items_on, made_at, merged_first, sent_after, used_of}
use Rattle.pair_machine.specs.Edges.{edge, merged_at}
use Rattle.pair_machine.specs.Flow.{IsFlow}
use Rattle.pair_machine.specs.Numbers.{in_edge}
use Rattle.pair_machine.proofs.Made.{GoesOn, front_most, is_upto, sent_goes_on, take_goes_on}
use Rattle.pair_machine.proofs.EdgeLaws.{get_of, parts_at, stages_answer}
use Rattle.pair_machine.proofs.Used.{count_next, merged_goes_on, in_edge_is, sources_are}

-- egress, after the last stage, is one partition
egress_part : (stages : List Stage) → get_or (map (λ s. s.parts) stages ++ 1 ∷ []) (length stages) 0 ≡ 1
egress_part [] = refl
egress_part (x ∷ stages) = egress_part stages

module _ (plan : PlanView) (inputs : List Input) where
  -- the edge from a partition of a stage is what the stage sends after the whole merged list
  pub sent_whole : (s q t : ℕ) → s < length plan.stages → q < parts_of plan (suc s)
      → sent_after (slice_get plan.stages s) (slice_get plan.stages (suc s)) t (items (merged_at plan inputs (suc s) q)) ≡ edge plan inputs (suc s) q t
  sent_whole s q t l h =
      let found = get_of plan.stages s l in
      ap (λ o. sent_after o (slice_get plan.stages (suc s)) t (items (merged_at plan inputs (suc s) q))) found.1
      ∙ sym (stages_answer plan inputs s q t found.0 found.1 (omega (arith, parts_at plan.stages s found.0 found.1)))

  -- so it goes on after what is sent after the first merged items
  pub stage_front : (s q t c : ℕ) → s < length plan.stages → q < parts_of plan (suc s)
      → GoesOn (sent_after (slice_get plan.stages s) (slice_get plan.stages (suc s)) t (merged_first plan inputs (record { stage = suc s; part = q }) c)) (edge plan inputs (suc s) q t)
  stage_front s q t c l h =
      let whole = items (merged_at plan inputs (suc s) q) in
      let stage = slice_get plan.stages s in
      let next = slice_get plan.stages (suc s) in
      let given = merged_first plan inputs (record { stage = suc s; part = q }) c in
      subst (GoesOn (sent_after stage next t given)) (sent_whole s q t l h) (sent_goes_on stage next t given whole (take_goes_on c whole))

  part_made_most : (s q t c : ℕ) → s < length plan.stages → q < parts_of plan (suc s) → made_at plan inputs (suc s) q t c ≤ length (edge plan inputs (suc s) q t)
  part_made_most s q t c l h =
      front_most (sent_after (slice_get plan.stages s) (slice_get plan.stages (suc s)) t (merged_first plan inputs (record { stage = suc s; part = q }) c)) (edge plan inputs (suc s) q t)
      (stage_front s q t c l h)

  pub made_most : (s q t c : ℕ) → 1 ≤ s → s ≤ length plan.stages → q < sources_of plan (s + 1) → made_at plan inputs s q t c ≤ length (edge plan inputs s q t)
  made_most zero q t c a b h = absurd (omega arith)
  made_most (suc s) q t c a b h = part_made_most s q t c (omega arith) (let next : suc s + 1 - 1 ≡ suc s = omega arith in subst (λ n. q < parts_of plan n) next h)

  more_left : IsPlan plan → (s part c : ℕ) → 1 ≤ s → s ≤ length plan.stages + 1
      → ((q : ℕ) → q < sources_of plan s → used_of plan inputs (record { stage = s; part = part }) q c < length (items_on plan inputs (in_edge (record { stage = s; part = part }) q)))
      → c < length (merged_at plan inputs s part)
  more_left p zero part c a b left = absurd (omega arith)
  more_left p (suc s) part c a b left =
      merged_goes_on plan inputs p s part c (omega arith)
      (λ q l. omega (arith, left q (omega (arith, sources_are plan s)), ap length (in_edge_is plan inputs s part q)))

pub plan_is_flow : (plan : PlanView) (inputs : List Input) → IsPlan plan → IsFlow (flow_of plan inputs)
unfolding flow_of
plan_is_flow plan inputs p = record {
  some_stage = p.some;
  first_sources = (p.version_low, p.version_high);
  last_targets = ap (parts_of plan) (let next : length plan.stages + 1 ≡ suc (length plan.stages) = omega arith in next) ∙ egress_part plan.stages;
  next_parts = λ s l. ap (parts_of plan) (let before : s + 1 ≡ s + 2 - 1 = omega arith in before);
  used_none = λ q c. refl;
  used_next = λ place q c. subst (λ n. used_of plan inputs place q n ≤ used_of plan inputs place q c + 1) (let next : suc c ≡ c + 1 = omega arith in next) (count_next q c (merged_at plan inputs place.stage place.part));
  more_left = λ place c low high left. more_left plan inputs p place.stage place.part c low high left;
  made_most = λ place t c low high there. made_most plan inputs place.stage place.part t c low high there;
  makes_most = λ q t m. count_by-le-length (is_upto m) (edge plan inputs 0 q t);
}
