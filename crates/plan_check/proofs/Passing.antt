-- Which rows pass a test, and where rows go that have one partition to go to.
use Rattle.std.proofs.Common.{ℤ, ◌≡◌, Bool, true, false, cond, List, [], ◌∷◌, refl, sym, ap, ◌∙◌, arith, pos, negsuc}
use Rattle.std.specs.Prelude.{unsigned_abs}
use Rattle.std.specs.Int.{int_rem_euclid}
use Rattle.std.specs.List.{filter}
use Rattle.std.proofs.lemmas.Bool.{false≢true}
use Rattle.tuple_edge.specs.Row.{column_of, route_of}
use Rattle.tuple_edge.specs.declared.row.Row.{Row}
use Rattle.plan_reader.specs.declared.stage.Stage.{Stage}

-- a test that implies another passes the same rows of those that pass the other
pub filter_within : (p q : Row → Bool) (rows : List Row) → ((x : Row) → p x ≡ true → q x ≡ true) → filter p (filter q rows) ≡ filter p rows
filter_within p q [] within = refl
filter_within p q (x ∷ rows) within = by_tests (q x) (p x) refl refl (filter_within p q rows within)
  where
    by_tests : (t u : Bool) → q x ≡ t → p x ≡ u → filter p (filter q rows) ≡ filter p rows → filter p (cond t (x ∷ filter q rows) (filter q rows)) ≡ cond u (x ∷ filter p rows) (filter p rows)
    by_tests true true inside here later = rw here (ap (λ rest. x ∷ rest) later)
    by_tests true false inside here later = rw here later
    by_tests false true inside here later = absurd (false≢true (sym inside ∙ within x here))
    by_tests false false inside here later = later

-- a test that each row passes
pub all_pass : (p : Row → Bool) (rows : List Row) → ((x : Row) → p x ≡ true) → filter p rows ≡ rows
all_pass p [] passes = refl
all_pass p (x ∷ rows) passes = rw (passes x) (ap (λ rest. x ∷ rest) (all_pass p rows passes))

route_one : (z : ℤ) → unsigned_abs (int_rem_euclid z (pos 1)) ≡ 0
route_one (pos n) = omega arith
route_one (negsuc n) = omega arith

-- each row goes to the one partition, where there is one
pub to_one : (s : Stage) (x : Row) → s.parts ≡ 1 → route_of x s.by s.parts ≡ 0
to_one s x one = rw one (route_one (column_of s.by x))
