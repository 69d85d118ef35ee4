-- What is known of the stages of a plan that isn't warned of for its partitions.
use Rattle.std.proofs.Common.{ℕ, ◌≡◌, ◌+◌, Bool, true, false, All, List, [], ◌∷◌, Option, Some, None, refl, sym, ap}
use Rattle.std.specs.Prelude.{◌&&◌, nat_lt, not, if◌then◌else◌}
use Rattle.std.proofs.lemmas.Bool.{false≢true}
use Rattle.std.proofs.lemmas.List.Elements.{All-head, All-tail}
use Rattle.tuple_edge.specs.declared.row.Column.{Column}
use Rattle.op_spec.specs.declared.spec.By.TheVariants as by
use Rattle.plan_reader.specs.PlanView.{IsStage, PlanView}
use Rattle.plan_reader.specs.declared.stage.Stage.{Stage}
use Rattle.bucket_move.specs.ByKey.{holds_column}
use Rattle.plan_check.specs.Laws.{AreUnsplit}
use Rattle.plan_check.specs.Order.{dealing, deals_out, first_dealing, has_column, is_window, key_behind}
use Rattle.plan_check.specs.Stages.{numbered}
use Rattle.plan_check.specs.Sums.{splits_keys}
use Rattle.plan_check.specs.Warnings.{is_warned_of_parts}
use Rattle.plan_check.proofs.Quiet.{deal_none}
use Rattle.partition_law.specs.Law.{last_key}
use Rattle.partition_law.proofs.Stages.{AreWhole, both_true, specs_of, unless_found}

are_whole : (stages : List Stage) → All IsStage stages → AreUnsplit stages → AreWhole stages
are_whole [] limits unsplit = tt
are_whole (s ∷ stages) limits unsplit = ((All-head IsStage s stages limits, unsplit.0), are_whole stages (All-tail IsStage s stages limits) unsplit.1)

-- ---- rows of one key behind a window

-- a column that rows have behind stages is in the key of the last one
last_has : (s : Stage) (stages : List Stage) (c : Column) → has_column c (s ∷ stages) ≡ true → holds_column (last_key (specs_of (s ∷ stages))) c ≡ true
last_has s [] c had = (both_true (holds_column (key_behind s.op) c) true had).0
last_has s (t ∷ stages) c had = last_has t stages c (both_true (holds_column (key_behind s.op) c) (has_column c (t ∷ stages)) had).1

by_tests : (several whole held of_both had : Bool) → (had ≡ true → held ≡ true) → (several && (whole && not (of_both && had))) ≡ false → (several && (whole && not (held && had))) ≡ false
by_tests false whole held of_both had if_had none = refl
by_tests true false held of_both had if_had none = refl
by_tests true true held of_both true if_had none = ap (λ (t : Bool). not (t && true)) (if_had refl)
by_tests true true held true false if_had none = absurd (false≢true (sym none))
by_tests true true held false false if_had none = absurd (false≢true (sym none))

deals_by : (s : Stage) (stages : List Stage) → deals_out by.Both s stages ≡ false → deals_out (last_key (specs_of (s ∷ stages))) s stages ≡ false
deals_by s stages none =
    by_tests (nat_lt 1 s.parts) (not (splits_keys s)) (holds_column (last_key (specs_of (s ∷ stages))) s.by) (holds_column by.Both s.by) (has_column s.by (s ∷ stages))
    (last_has s stages s.by) none

none_found : {A : Type 0} (t : Bool) (n : A) (rest : Option A) → t ≡ false → rest ≡ None → (if t then Some n else rest) ≡ None
none_found true n rest is none = absurd (false≢true (sym is))
none_found false n rest is none = none

first_by : (number : ℕ) (s : Stage) (stages : List Stage) → first_dealing by.Both number (s ∷ stages) ≡ None → first_dealing (last_key (specs_of (s ∷ stages))) number (s ∷ stages) ≡ None
first_by number s [] none =
    let first = unless_found (deals_out by.Both s []) (numbered number s) None none in
    none_found (deals_out (last_key (specs_of (s ∷ []))) s []) (numbered number s) None (deals_by s [] first.0) refl
first_by number s (t ∷ stages) none =
    let first = unless_found (deals_out by.Both s (t ∷ stages)) (numbered number s) (first_dealing by.Both (number + 1) (t ∷ stages)) none in
    none_found (deals_out (last_key (specs_of (s ∷ t ∷ stages))) s (t ∷ stages)) (numbered number s) (first_dealing (last_key (specs_of (t ∷ stages))) (number + 1) (t ∷ stages))
    (deals_by s (t ∷ stages) first.0) (first_by (number + 1) t stages first.1)

-- where no rows of one key leave from several partitions, none of the last stage's key do
pub dealing_by : (number : ℕ) (stages : List Stage) → dealing by.Both number stages ≡ None → dealing (last_key (specs_of stages)) number stages ≡ None
dealing_by number [] none = refl
dealing_by number (s ∷ []) none = by_kind (is_window s.op) none
  where
    by_kind : (t : Bool) → (if t then first_dealing by.Both number (s ∷ []) else None) ≡ None → (if t then first_dealing (last_key (specs_of (s ∷ []))) number (s ∷ []) else None) ≡ None
    by_kind true none = first_by number s [] none
    by_kind false none = refl
dealing_by number (s ∷ t ∷ stages) none = by_kind (is_window s.op) none (dealing_by (number + 1) (t ∷ stages))
  where
    by_kind : (kind : Bool) → (if kind then first_dealing by.Both number (s ∷ t ∷ stages) else dealing by.Both (number + 1) (t ∷ stages)) ≡ None
        → (dealing by.Both (number + 1) (t ∷ stages) ≡ None → dealing (last_key (specs_of (t ∷ stages))) (number + 1) (t ∷ stages) ≡ None)
        → (if kind then first_dealing (last_key (specs_of (s ∷ t ∷ stages))) number (s ∷ t ∷ stages) else dealing (last_key (specs_of (t ∷ stages))) (number + 1) (t ∷ stages)) ≡ None
    by_kind true none later = first_by number s (t ∷ stages) none
    by_kind false none later = later none

-- ---- a plan

-- A plan that isn't warned of for its partitions splits no keys, and no rows of one key leave it from several partitions behind a window.
pub not_warned : (plan : PlanView) → All IsStage plan.stages → is_warned_of_parts plan ≡ false → AreWhole plan.stages × (dealing by.Both 1 plan.stages ≡ None)
not_warned plan limits quiet =
    let known = deal_none plan quiet in
    (are_whole plan.stages limits known.0, known.1)
