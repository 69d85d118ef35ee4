-- The partitions of a stage see one more row, and what is still to be answered then.
use Rattle.std.proofs.Common.{◌≡◌, ◌<◌, ◌≤◌, ℕ, zero, suc, Bool, true, false, cond, List, [], ◌∷◌, ◌++◌, ◌+◌, refl, sym, ap, ◌∙◌, subst, arith, append_assoc, drop, get_or, length, map, set}
use Rattle.std.specs.Prelude.{◌==◌, if◌then◌else◌, slice_get}
use Rattle.std.proofs.lemmas.Bool.{eq-eqb}
use Rattle.std.proofs.lemmas.List.{append-nil, map-append}
use Rattle.std.proofs.lemmas.List.Elements.{filter-append}
use Rattle.tuple_edge.specs.declared.row.Row.{Row}
use Rattle.tuple_edge.specs.Row.{route_of}
use Rattle.merge_order.proofs.Choices.{nat_not}
use Rattle.op_spec.specs.declared.spec.OpSpec.{OpSpec}
use Rattle.op_spec.specs.Spec.{IsSpec}
use Rattle.op_spec.specs.declared.spec.OpSpec.TheVariants as op
use Rattle.plan_reader.specs.declared.stage.Stage.{Stage}
use Rattle.evaluation.specs.StageRows.{HasTaken}
use Rattle.reach_finder.specs.Shades.{marking, reached_by, shaded, traced, traced_by}
use Rattle.reach_finder.specs.Traced.{HasSeen, PartsSaw, rows_in, traced_late, traced_part, traced_row, traced_to}
use Rattle.reach_finder.specs.declared.shades.Traced.{Traced}
use Rattle.reach_finder.specs.declared.tracer.Tracer.{Tracer}

-- ---- answers with their marks

no_drop : (k : ℕ) → drop k (let none : List Row = [] in none) ≡ []
no_drop zero = refl
no_drop (suc k) = refl

pub traced_next : (op : OpSpec) (spoke : Bool) (rows shades : List Row) (k : ℕ) (d : Row) → k < length rows
    → traced_by op spoke (drop k rows) (drop k shades) ≡ traced (get_or rows k d) (reached_by op spoke (slice_get shades k)) ∷ traced_by op spoke (drop (suc k) rows) (drop (suc k) shades)
traced_next op spoke [] shades k d l = absurd (omega arith)
traced_next op spoke (r ∷ rows) [] zero d l = refl
traced_next op spoke (r ∷ rows) (s ∷ shades) zero d l = refl
traced_next op spoke (r ∷ rows) [] (suc k) d l = ap (traced_by op spoke (drop k rows)) (sym (no_drop k)) ∙ traced_next op spoke rows [] k d (omega arith)
traced_next op spoke (r ∷ rows) (s ∷ shades) (suc k) d l = traced_next op spoke rows shades k d (omega arith)

-- ---- both runs of an operator

pub marked_spec : (op : OpSpec) → IsSpec op → IsSpec (marking op)
marked_spec (op.Keep column compare limit) limits = limits
marked_spec (op.Total by) limits = limits
marked_spec (op.Last by n) limits = limits
marked_spec (op.Window by width) limits = limits
marked_spec (op.Crossing by limit) limits = tt
marked_spec (op.Join by width n column compare limit) limits = limits

-- a row more for both runs
pub seen_more : (op : OpSpec) (new : Tracer) (before : List Traced) (x : Traced) (shade : Row) → shade ≡ shaded op x
    → HasTaken op new.rows (rows_in before ++ x.row ∷ []) → HasTaken (marking op) new.marks (map (shaded op) before ++ shade ∷ []) → HasSeen op new (before ++ x ∷ [])
seen_more op new before x shade is rows marks = record {
  rows = subst (HasTaken op new.rows) (sym (map-append (λ (y : Traced). y.row) before (x ∷ []))) rows;
  marks = subst (HasTaken (marking op) new.marks) (ap (λ (s : Row). map (shaded op) before ++ s ∷ []) is ∙ sym (map-append (shaded op) before (x ∷ []))) marks;
}

-- answers of both runs behind others
pub traced_are : (op : OpSpec) (spoke : Bool) (rows shades all_rows all_shades : List Row) (had has : List Traced) → has ≡ had ++ traced_by op spoke rows shades → rows ≡ all_rows → shades ≡ all_shades
    → has ≡ had ++ traced_by op spoke all_rows all_shades
traced_are op spoke rows shades all_rows all_shades had has whole e f =
    whole ∙ (ap (λ (rs : List Row). had ++ traced_by op spoke rs shades) e ∙ ap (λ (ss : List Row). had ++ traced_by op spoke all_rows ss) f)

-- ---- the partitions of a stage

to_here : (stage : Stage) (q : ℕ) (xs : List Traced) (x : Traced) → (route_of x.row stage.by stage.parts == q) ≡ true → traced_to stage q (xs ++ x ∷ []) ≡ traced_to stage q xs ++ x ∷ []
to_here stage q xs x e =
    filter-append (λ (y : Traced). route_of y.row stage.by stage.parts == q) xs (x ∷ []) ∙ ap (λ b. traced_to stage q xs ++ (if b then x ∷ [] else [])) e

to_other : (stage : Stage) (q : ℕ) (xs : List Traced) (x : Traced) → (route_of x.row stage.by stage.parts == q) ≡ false → traced_to stage q (xs ++ x ∷ []) ≡ traced_to stage q xs
to_other stage q xs x e =
    filter-append (λ (y : Traced). route_of y.row stage.by stage.parts == q) xs (x ∷ []) ∙ (ap (λ b. traced_to stage q xs ++ (if b then x ∷ [] else [])) e ∙ append-nil (traced_to stage q xs))

-- a partition that sees a row
abbrev pub Sees : Stage → Traced → Tracer → Tracer → Type 0
Sees stage x old new = (before : List Traced) → HasSeen stage.op old before → HasSeen stage.op new (before ++ x ∷ [])

others_saw : (stage : Stage) (q : ℕ) (tracers : List Tracer) (before : List Traced) (x : Traced) → route_of x.row stage.by stage.parts < q → PartsSaw stage q tracers before → PartsSaw stage q tracers (before ++ x ∷ [])
others_saw stage q [] before x l h = tt
others_saw stage q (tracer ∷ tracers) before x l h = (
  subst (HasSeen stage.op tracer) (sym (to_other stage q before x (nat_not (route_of x.row stage.by stage.parts) q (λ e. omega arith)))) h.0,
  others_saw stage (q + 1) tracers before x (omega arith) h.1,
)

pub row_seen : (stage : Stage) (q k : ℕ) (tracers : List Tracer) (before : List Traced) (x : Traced) (new d : Tracer) → route_of x.row stage.by stage.parts ≡ q + k → k < length tracers
    → Sees stage x (get_or tracers k d) new → PartsSaw stage q tracers before → PartsSaw stage q (set tracers k new) (before ++ x ∷ [])
row_seen stage q k [] before x new d e l t h = absurd (omega arith)
row_seen stage q zero (tracer ∷ tracers) before x new d e l t h = (
  subst (HasSeen stage.op new) (sym (to_here stage q before x (eq-eqb (route_of x.row stage.by stage.parts) q (omega arith)))) (t (traced_to stage q before) h.0),
  others_saw stage (q + 1) tracers before x (omega arith) h.1,
)
row_seen stage q (suc k) (tracer ∷ tracers) before x new d e l t h = (
  subst (HasSeen stage.op tracer) (sym (to_other stage q before x (nat_not (route_of x.row stage.by stage.parts) q (λ z. omega arith)))) h.0,
  row_seen stage (q + 1) k tracers before x new d (omega arith) (omega arith) t h.1,
)

-- one of them
pub part_saw : (stage : Stage) (q k : ℕ) (tracers : List Tracer) (xs : List Traced) (d : Tracer) → k < length tracers → PartsSaw stage q tracers xs → HasSeen stage.op (get_or tracers k d) (traced_to stage (q + k) xs)
part_saw stage q k [] xs d l h = absurd (omega arith)
part_saw stage q zero (tracer ∷ tracers) xs d l h = subst (λ n. HasSeen stage.op tracer (traced_to stage n xs)) (omega arith) h.0
part_saw stage q (suc k) (tracer ∷ tracers) xs d l h =
    subst (λ n. HasSeen stage.op (get_or tracers k d) (traced_to stage n xs)) (omega arith) (part_saw stage (q + 1) k tracers xs d (omega arith) h.1)

-- one more, which saw nothing
pub one_opened : (stage : Stage) (q : ℕ) (tracers : List Tracer) (new : Tracer) → HasSeen stage.op new [] → PartsSaw stage q tracers [] → PartsSaw stage q (tracers ++ new ∷ []) []
one_opened stage q [] new n h = (n, tt)
one_opened stage q (tracer ∷ tracers) new n h = (h.0, one_opened stage (q + 1) tracers new n h.1)

-- ---- the late rows of a partition

-- where a partition stands among the late rows: it has seen some rows, and what it still answers completes what it answers in all
pub record Stands (stage : Stage) (q : ℕ) (tracer : Tracer) (left had has whole : List Traced) : Type 0 where
  pub before : List Traced
  pub seen : HasSeen stage.op tracer before
  pub answers : has ++ traced_part stage q before left ≡ had ++ whole

pub stands_here : (stage : Stage) (q : ℕ) (old new : Tracer) (x : Traced) (left had has now whole : List Traced) → (route_of x.row stage.by stage.parts == q) ≡ true → Sees stage x old new
    → ((before : List Traced) → HasSeen stage.op old before → now ≡ has ++ traced_row stage.op before x) → Stands stage q old (x ∷ left) had has whole → Stands stage q new left had now whole
stands_here stage q old new x left had has now whole goes sees gave s =
    let mine = traced_row stage.op s.before x in
    let rest = traced_part stage q (s.before ++ x ∷ []) left in
    record {
      before = s.before ++ x ∷ [];
      seen = sees s.before s.seen;
      answers = ap (λ (o : List Traced). o ++ rest) (gave s.before s.seen)
          ∙ (append_assoc has mine rest ∙ (ap (λ (b : Bool). has ++ cond b (mine ++ rest) (traced_part stage q s.before left)) (sym goes) ∙ s.answers));
    }

pub stands_other : (stage : Stage) (q : ℕ) (tracer : Tracer) (x : Traced) (left had has whole : List Traced) → (route_of x.row stage.by stage.parts == q) ≡ false
    → Stands stage q tracer (x ∷ left) had has whole → Stands stage q tracer left had has whole
stands_other stage q tracer x left had has whole goes s = record {
  before = s.before;
  seen = s.seen;
  answers = ap (λ (b : Bool). has ++ cond b (traced_row stage.op s.before x ++ traced_part stage q (s.before ++ x ∷ []) left) (traced_part stage q s.before left)) (sym goes) ∙ s.answers;
}

-- ---- one partition after the other

pub late_one_more : (stage : Stage) (early late : List Traced) (q n m : ℕ) → n ≡ suc m → traced_late stage early late q n ≡ traced_part stage q (traced_to stage q early) late ++ traced_late stage early late (q + 1) m
late_one_more stage early late q n m e = ap (traced_late stage early late q) e

pub dropped_set : (k : ℕ) (tracers : List Tracer) (new : Tracer) → drop (suc k) (set tracers k new) ≡ drop (suc k) tracers
dropped_set k [] new = refl
dropped_set zero (tracer ∷ tracers) new = refl
dropped_set (suc k) (tracer ∷ tracers) new = dropped_set k tracers new

-- nothing is left behind the last one
pub none_left : {X : Type 0} (xs : List X) (k : ℕ) → length xs ≤ k → drop k xs ≡ []
none_left [] zero l = refl
none_left [] (suc k) l = refl
none_left (x ∷ xs) zero l = absurd (omega arith)
none_left (x ∷ xs) (suc k) l = none_left xs k (omega arith)
