-- What holds of the edges of every plan.
use Rattle.std.proofs.Common.{◌≡◌, ◌<◌, ◌≤◌, ◌*◌, ℕ, zero, suc, List, [], ◌∷◌, ◌++◌, ◌+◌, ◌⊎◌, inl, inr, Option, None, Some, get_or, length, map, refl, sym, ap, ◌∙◌, arith}
use Rattle.std.specs.Prelude.{slice_get, take}
use Rattle.std.proofs.lemmas.Bool.{cases_lt}
use Rattle.std.proofs.lemmas.List.{length-map}
use Rattle.std.proofs.lemmas.List.FromFn.{length-map-range_with_len}
use Rattle.tuple_edge.specs.Input.{Input}
use Rattle.tuple_edge.specs.declared.item.Item.{Item}
use Rattle.merge_order.specs.Merged.{Place, items, merged}
use Rattle.merge_order.proofs.Forms.{merged_edge}
use Rattle.plan_reader.specs.Nodes.{parts_of}
use Rattle.plan_reader.specs.PlanView.{PlanView}
use Rattle.plan_reader.specs.declared.stage.Stage.{Stage}
use Rattle.pair_machine.specs.Ingress.{last_stamp, sent_by_source}
use Rattle.pair_machine.specs.Edges.{edge, edge_to, edges_into, edges_to, merged_at, most_sent, sent_by, sent_by_part}
use Rattle.pair_machine.specs.Laws.{EachPartSends, EdgesAreShort, EdgesHaveTheForm, MarksAreShared, StagesAnswer, TimesStay}
use Rattle.pair_machine.proofs.EdgeLengths.{all_row_count, before_last, count_at, edge_length, edge_to_count, few_sent, merged_count, sent_count}
use Rattle.pair_machine.proofs.Sending.{edge_to_edge, edge_to_marks, edges_to_edges}
use Rattle.pair_machine.proofs.Stages.{alike_at, ingress_marks, send_edges, sends, sent_by-next, sent_by_part_is}
use Rattle.pair_machine.proofs.Times.{edge_to_timely, edges_to_timely, merged_timely, sent_timely, timely_at}

pub have_the_form : EdgesHaveTheForm
have_the_form plan inputs p s q =
    edges_to_edges (slice_get plan.stages s) q (last_stamp inputs) (sent_by plan inputs s) (send_edges (last_stamp inputs) (ingress_marks plan inputs) (sent_by plan inputs s) (sends plan inputs p s))

pub stages_answer : StagesAnswer
stages_answer plan inputs s q t stage e l = ap (edge_to (slice_get plan.stages (suc s)) t) (sent_by_part_is plan inputs s q stage e l)

pub marks_are_shared : MarksAreShared
marks_are_shared plan inputs p s q t n l =
    edge_to_marks (slice_get plan.stages s) t n (get_or (sent_by plan inputs s) q [])
    ∙ (alike_at (last_stamp inputs) (ingress_marks plan inputs) (sent_by plan inputs s) (sends plan inputs p s).alike q l).1 n

-- how many partitions send ---------------------------------------------------------------

pub get_of : (stages : List Stage) (s : ℕ) → s < length stages → (stage : Stage) × (slice_get stages s ≡ Some stage)
get_of [] s l = absurd (omega arith)
get_of (x ∷ stages) zero l = (x, refl)
get_of (x ∷ stages) (suc s) l = get_of stages s (omega arith)

pub parts_at : (stages : List Stage) (s : ℕ) (stage : Stage) → slice_get stages s ≡ Some stage → get_or (map (λ s. s.parts) stages ++ 1 ∷ []) s 0 ≡ stage.parts
parts_at [] s stage e = let z : ⊥ = cc e in absurd z
parts_at (x ∷ stages) zero stage e = let same : x ≡ stage = cc e in ap (λ y. y.parts) same
parts_at (x ∷ stages) (suc s) stage e = parts_at stages s stage e

pub sent_length : (plan : PlanView) (inputs : List Input) (s : ℕ) → s ≤ length plan.stages → length (sent_by plan inputs s) ≡ parts_of plan s
sent_length plan inputs zero l = length-map-range_with_len (sent_by_source plan inputs) 0 plan.version
sent_length plan inputs (suc s) l =
    let h = get_of plan.stages s (omega arith) in
    ap length (sent_by-next plan inputs s h.0 h.1)
    ∙ (length-map-range_with_len (sent_by_part (last_stamp inputs) (sent_by plan inputs s) h.0) 0 h.0.parts ∙ sym (parts_at plan.stages s h.0 h.1))

pub each_part_sends : EachPartSends
each_part_sends plan inputs s q l = length-map (sent_by plan inputs s) (edge_to (slice_get plan.stages s) q) ∙ sent_length plan inputs s l

-- lengths ----------------------------------------------------------------------------------

pub items-length : (ps : List Place) → length (items ps) ≡ length ps
items-length ps = length-map ps (λ p. p.item)

all_edges_count : (stage : Option Stage) (t : ℕ) (es : List (List Item)) → all_row_count (edges_to stage t es) ≤ all_row_count es
all_edges_count stage t [] = omega arith
all_edges_count stage t (e ∷ es) = omega (arith, edge_to_count stage t e, all_edges_count stage t es)

pub are_short : EdgesAreShort
are_short plan inputs p = record { edges = edge_short; merged = merged_short; inner = λ s. before_last plan.stages s p.join_last; most = λ s. few_sent plan s p }
  where
    there : (s q t : ℕ) → q < length (sent_by plan inputs s) → length (edge plan inputs s q t) ≤ most_sent (take s plan.stages) * length inputs + length inputs + 1
    there s q t l =
        let is = (alike_at (last_stamp inputs) (ingress_marks plan inputs) (sent_by plan inputs s) (sends plan inputs p s).alike q l).0 in
        let sent = get_or (sent_by plan inputs s) q [] in
        omega (
          arith,
          edge_length (last_stamp inputs) (edge plan inputs s q t) (edge_to_edge (slice_get plan.stages s) t (last_stamp inputs) sent is),
          edge_to_count (slice_get plan.stages s) t sent,
          count_at (sent_by plan inputs s) q,
          sent_count plan inputs p s,
        )

    nothing : (stage : Option Stage) (t : ℕ) → edge_to stage t [] ≡ []
    nothing None t = refl
    nothing (Some stage) t = refl

    past : (xs : List (List Item)) (q : ℕ) → length xs ≤ q → get_or xs q [] ≡ []
    past [] q l = refl
    past (x ∷ xs) zero l = absurd (omega arith)
    past (x ∷ xs) (suc q) l = past xs q (omega arith)

    edge_short : (s q t : ℕ) → length (edge plan inputs s q t) ≤ most_sent (take s plan.stages) * length inputs + length inputs + 1
    edge_short s q t = by (cases_lt q (length (sent_by plan inputs s)))
      where
        by : (q < length (sent_by plan inputs s)) ⊎ (length (sent_by plan inputs s) ≤ q) → length (edge plan inputs s q t) ≤ most_sent (take s plan.stages) * length inputs + length inputs + 1
        by (inl l) = there s q t l
        by (inr l) = omega (arith, ap length (ap (edge_to (slice_get plan.stages s) t) (past (sent_by plan inputs s) q l) ∙ nothing (slice_get plan.stages s) t))

    merged_short : (s q : ℕ) → length (merged_at plan inputs (suc s) q) ≤ most_sent (take s plan.stages) * length inputs + length inputs + 1
    merged_short s q =
        let into = edges_into plan inputs (suc s) q in
        omega (
          arith,
          items-length (merged (last_stamp inputs) into),
          edge_length (last_stamp inputs) (items (merged (last_stamp inputs) into)) (merged_edge (last_stamp inputs) into (have_the_form plan inputs p s q)),
          merged_count (last_stamp inputs) into,
          all_edges_count (slice_get plan.stages s) q (sent_by plan inputs s),
          sent_count plan inputs p s,
        )

pub times_stay : TimesStay
times_stay plan inputs p t = record {
  edges = λ s q target. edge_to_timely (slice_get plan.stages s) target (get_or (sent_by plan inputs s) q []) (timely_at (sent_by plan inputs s) (sent_timely plan inputs p t s) q);
  merged = λ s q. merged_timely (last_stamp inputs) (edges_into plan inputs (suc s) q) (edges_to_timely (slice_get plan.stages s) q (sent_by plan inputs s) (sent_timely plan inputs p t s));
}
