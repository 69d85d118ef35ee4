-- What the partitions of each stage send has the form of edges, and carries the marks that ingress sends.
use Rattle.std.proofs.Common.{◌≡◌, ◌<◌, ◌≤◌, ℕ, zero, suc, Bool, List, [], ◌∷◌, ◌+◌, Some, get_or, length, map, sym, ap, ◌∙◌, subst, arith, take}
use Rattle.std.specs.Prelude.{All, fold, slice_get}
use Rattle.std.specs.List.{range_with_len}
use Rattle.std.proofs.lemmas.List.FromFn.{get_or-map-range_with_len, length-map-range_with_len}
use Rattle.std.proofs.lemmas.List.Elements.{All-head, All-tail, All-take, All-weaker}
use Rattle.std.proofs.lemmas.List.Sums.{fold_more}
use Rattle.tuple_edge.specs.Input.{Input}
use Rattle.tuple_edge.specs.declared.item.Item.{Item}
use Rattle.merge_order.specs.Edges.{AreAlike, AreEdges, IsEdge}
use Rattle.merge_order.specs.Merged.{has_mark_at, items, merged}
use Rattle.merge_order.proofs.Forms.{merged_edge, merged_marks}
use Rattle.plan_reader.specs.PlanView.{IsPlan, IsStage, PlanView}
use Rattle.plan_reader.specs.declared.stage.Stage.{Stage}
use Rattle.pair_machine.specs.Ingress.{last_stamp, sent_by_ingress, sent_by_source}
use Rattle.pair_machine.specs.Edges.{answered, edges_to, merged_at, sent_by, sent_by_part, sent_by_stage}
use Rattle.pair_machine.proofs.Sending.{answered_edge, answered_marks, edges_to_edges, source_edge, source_marks}

-- a stage has a partition
abbrev pub HasPart : Stage → Type 0
HasPart stage = 1 ≤ stage.parts

pub stages_have_parts : (plan : PlanView) → IsPlan plan → All HasPart plan.stages
stages_have_parts plan p = All-weaker IsStage HasPart (λ stage s. s.some) plan.stages p.stages

-- what sources send: edges that carry just these marks
pub record Send (last : ℕ) (carries : ℕ → Bool) (sent : List (List Item)) : Type 0 where
  pub some : 1 ≤ length sent
  pub alike : AreAlike last carries sent

abbrev pub send_edges : (last : ℕ) (carries : ℕ → Bool) (sent : List (List Item)) → Send last carries sent → AreEdges last sent
send_edges last carries sent s = record { some = s.some; carries = carries; alike = s.alike }

pub part_edge : (last : ℕ) (carries : ℕ → Bool) (sent : List (List Item)) → Send last carries sent → (stage : Stage) (q : ℕ) → IsEdge last (sent_by_part last sent stage q)
part_edge last carries sent s stage q =
    let into = edges_to (Some stage) q sent in
    answered_edge stage.op last [] (items (merged last into)) (merged_edge last into (edges_to_edges (Some stage) q last sent (send_edges last carries sent s)))

pub part_marks : (last : ℕ) (carries : ℕ → Bool) (sent : List (List Item)) → Send last carries sent → (stage : Stage) (q n : ℕ) → has_mark_at n (sent_by_part last sent stage q) ≡ carries n
part_marks last carries sent s stage q n =
    let into = edges_to (Some stage) q sent in
    answered_marks stage.op n [] (items (merged last into)) ∙ merged_marks last into (edges_to_edges (Some stage) q last sent (send_edges last carries sent s)) n

map_alike : (last : ℕ) (carries : ℕ → Bool) (f : ℕ → List Item) → ((q : ℕ) → IsEdge last (f q)) → ((q n : ℕ) → has_mark_at n (f q) ≡ carries n)
    → (a n : ℕ) → AreAlike last carries (map f (range_with_len a n))
map_alike last carries f e m a zero = tt
map_alike last carries f e m a (suc n) = (e a, m a, map_alike last carries f e m (a + 1) n)

pub stage_sends : (last : ℕ) (carries : ℕ → Bool) (sent : List (List Item)) (stage : Stage) → HasPart stage → Send last carries sent → Send last carries (sent_by_stage last sent stage)
stage_sends last carries sent stage part s = record {
  some = omega (arith, length-map-range_with_len (sent_by_part last sent stage) 0 stage.parts, part);
  alike = map_alike last carries (sent_by_part last sent stage) (part_edge last carries sent s stage) (part_marks last carries sent s stage) 0 stage.parts;
}

pub stages_send : (last : ℕ) (carries : ℕ → Bool) (stages : List Stage) (sent : List (List Item)) → All HasPart stages → Send last carries sent
    → Send last carries (fold (sent_by_stage last) sent stages)
stages_send last carries [] sent parts s = s
stages_send last carries (stage ∷ stages) sent parts s =
    stages_send last carries stages (sent_by_stage last sent stage) (All-tail HasPart stage stages parts) (stage_sends last carries sent stage (All-head HasPart stage stages parts) s)

-- the marks that each source of ingress sends
abbrev pub ingress_marks : PlanView → List Input → ℕ → Bool
ingress_marks plan inputs n = has_mark_at n (sent_by_source plan inputs 0)

pub ingress_sends : (plan : PlanView) (inputs : List Input) → IsPlan plan → Send (last_stamp inputs) (ingress_marks plan inputs) (sent_by_ingress plan inputs)
ingress_sends plan inputs p = record {
  some = omega (arith, length-map-range_with_len (sent_by_source plan inputs) 0 plan.version, p.version_low);
  alike = map_alike (last_stamp inputs) (ingress_marks plan inputs) (sent_by_source plan inputs) (source_edge plan inputs) (λ q n. source_marks q 0 plan.mark 1 n inputs) 0 plan.version;
}

-- what a source of ingress sends
pub source_at : (plan : PlanView) (inputs : List Input) (q : ℕ) → q < plan.version → get_or (sent_by plan inputs 0) q [] ≡ sent_by_source plan inputs q
source_at plan inputs q l = get_or-map-range_with_len (sent_by_source plan inputs) 0 plan.version q q [] l (omega arith)

pub sends : (plan : PlanView) (inputs : List Input) → IsPlan plan → (s : ℕ) → Send (last_stamp inputs) (ingress_marks plan inputs) (sent_by plan inputs s)
sends plan inputs p s =
    stages_send (last_stamp inputs) (ingress_marks plan inputs) (take s plan.stages) (sent_by_ingress plan inputs)
    (All-take HasPart s plan.stages (stages_have_parts plan p)) (ingress_sends plan inputs p)

-- the list of a source of edges that are alike
pub alike_at : (last : ℕ) (carries : ℕ → Bool) (es : List (List Item)) → AreAlike last carries es → (q : ℕ) → q < length es
    → IsEdge last (get_or es q []) × ((n : ℕ) → has_mark_at n (get_or es q []) ≡ carries n)
alike_at last carries [] a q l = absurd (omega arith)
alike_at last carries (e ∷ es) a zero l = (a.0, a.1)
alike_at last carries (e ∷ es) a (suc q) l = alike_at last carries es a.2 q (omega arith)

-- stage by stage -----------------------------------------------------------------------------

pub get_is : (xs : List Stage) (s : ℕ) (x : Stage) → slice_get xs s ≡ Some x → (d : Stage) → (s < length xs) × (get_or xs s d ≡ x)
get_is [] s x e d = let z : ⊥ = cc e in absurd z
get_is (y ∷ xs) zero x e d = (omega arith, cc e)
get_is (y ∷ xs) (suc s) x e d = let h = get_is xs s x e d in (omega (arith, h.0), h.1)

-- the next stage sends what its partitions answer to what its sources sent
pub sent_by-next : (plan : PlanView) (inputs : List Input) (s : ℕ) (stage : Stage) → slice_get plan.stages s ≡ Some stage
    → sent_by plan inputs (suc s) ≡ sent_by_stage (last_stamp inputs) (sent_by plan inputs s) stage
sent_by-next plan inputs s stage e =
    let h = get_is plan.stages s stage e stage in
    let f = sent_by_stage (last_stamp inputs) in
    let first = sent_by_ingress plan inputs in
    let P : ℕ → Type 0 = λ n. fold f first (take n plan.stages) ≡ f (fold f first (take s plan.stages)) (get_or plan.stages s stage) in
    let next : s + 1 ≡ suc s = omega arith in
    subst P next (fold_more f first plan.stages s stage h.0) ∙ ap (f (sent_by plan inputs s)) h.1

-- a partition sends what its operator answers to its merged list
pub sent_by_part_is : (plan : PlanView) (inputs : List Input) (s q : ℕ) (stage : Stage) → slice_get plan.stages s ≡ Some stage → q < stage.parts
    → get_or (sent_by plan inputs (suc s)) q [] ≡ answered stage.op [] (items (merged_at plan inputs (suc s) q))
sent_by_part_is plan inputs s q stage e l =
    let last = last_stamp inputs in
    let sent = sent_by plan inputs s in
    ap (λ x. get_or x q []) (sent_by-next plan inputs s stage e)
    ∙ (get_or-map-range_with_len (sent_by_part last sent stage) 0 stage.parts q q [] l (omega arith)
    ∙ ap (λ o. answered stage.op [] (items (merged last (edges_to o q sent)))) (sym e))
