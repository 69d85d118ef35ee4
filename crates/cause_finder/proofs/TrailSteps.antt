-- What a trail says of a row, and what the trail of the next row of its key says.
use Rattle.std.proofs.Common.{ℕ, ℤ, pos, ◌≡◌, ◌<◌, ◌≤◌, ◌-◌, ◌+◌, Bool, true, false, cond, List, [], ◌∷◌, ◌++◌, Option, Some, length, drop, get_or, refl, sym, ap, ◌∙◌, arith, append_assoc, int_lt, length-append}
use Rattle.std.specs.Prelude.{◌&&◌, ◌==◌, slice_get}
use Rattle.std.specs.Int.{int_max}
use Rattle.std.specs.Ordering.{int_eq}
use Rattle.std.proofs.lemmas.Bool.{eq-eqb}
use Rattle.std.proofs.lemmas.List.{append-nil, drop-append-le, drop_all, map-append}
use Rattle.std.proofs.Math.Seq.{drop-append_seam}
use Rattle.circular_buffer.specs.Buffer.{keep_last}
use Rattle.tuple_edge.specs.Row.{route_of}
use Rattle.tuple_edge.specs.declared.row.Row.{Row}
use Rattle.op_spec.specs.Keys.{is_key, key_of}
use Rattle.op_spec.specs.declared.spec.OpSpec.{OpSpec}
use Rattle.op_spec.specs.declared.spec.OpSpec.TheVariants as op
use Rattle.plan_reader.specs.declared.stage.Stage.{Stage}
use Rattle.stream_ops.specs.Windows.{level, level_from, window_of}
use Rattle.stream_ops.proofs.Keyed.{self_key}
use Rattle.stream_ops.proofs.Levels.{eq_self, level-push, level_grows, lower_differs, max_of_less, max_of_more, max_self}
use Rattle.row_cause.specs.Causes.{open_rows, placed_at_from, rows_in}
use Rattle.row_cause.specs.declared.placed.Placed.{Placed}
use Rattle.row_origin.proofs.Placing.{keyed-more}
use Rattle.cause_finder.specs.Trails.{Tells, keyed_by, level_in, own_among, own_before, own_of, own_upto, rested_from, resting, window_in}
use Rattle.cause_finder.specs.declared.trails.Trail.{Trail}

-- ---- open windows

-- the rows of a level, with one more row
at_from-push : (width high at : ℤ) (placed : List Placed) (x : Placed)
    → placed_at_from width high at (placed ++ x ∷ []) ≡ placed_at_from width high at placed ++ cond (int_eq (int_max (level_from width high (rows_in placed)) (window_of width x.row)) at) (x ∷ []) []
at_from-push width high at [] x = append-nil _
at_from-push width high at (y ∷ placed) x =
    ap (λ (later : List Placed). cond (int_eq (int_max high (window_of width y.row)) at) (y ∷ []) [] ++ later) (at_from-push width (int_max high (window_of width y.row)) at placed x)
    ∙ sym (append_assoc (cond (int_eq (int_max high (window_of width y.row)) at) (y ∷ []) []) (placed_at_from width (int_max high (window_of width y.row)) at placed) _)

-- none is of a higher level
at_from-above : (width high at : ℤ) (placed : List Placed) → int_lt (level_from width high (rows_in placed)) at ≡ true → placed_at_from width high at placed ≡ []
at_from-above width high at [] above = refl
at_from-above width high at (y ∷ placed) above =
    rw (lower_differs (int_max high (window_of width y.row)) (level_from width (int_max high (window_of width y.row)) (rows_in placed)) at (level_grows width (int_max high (window_of width y.row)) (rows_in placed)) above)
    (at_from-above width (int_max high (window_of width y.row)) at placed above)

-- the first row of a key opens its window
first_open : (width : ℤ) (x : Placed) → open_rows width (x ∷ []) ≡ x ∷ []
first_open width x = rw (eq_self (int_max (window_of width x.row) (window_of width x.row))) refl

rows_in-push : (placed : List Placed) (x : Placed) → rows_in (placed ++ x ∷ []) ≡ rows_in placed ++ x.row ∷ []
rows_in-push placed x = map-append (λ (y : Placed). y.row) placed (x ∷ [])

-- a later row opens one where its window is greater than all before, and else counts into the open one
level_more : (width : ℤ) (y : Placed) (placed : List Placed) (x : Placed) → level width (rows_in (y ∷ placed ++ x ∷ [])) ≡ int_max (level width (rows_in (y ∷ placed))) (window_of width x.row)
level_more width y placed x = ap (λ (rows : List Row). level width (y.row ∷ rows)) (rows_in-push placed x) ∙ level-push width y.row (rows_in placed) x.row

open_by : (width : ℤ) (y : Placed) (placed : List Placed) (x : Placed) (opens : Bool) → int_lt (level width (rows_in (y ∷ placed))) (window_of width x.row) ≡ opens
    → open_rows width (y ∷ placed ++ x ∷ []) ≡ cond opens (x ∷ []) (open_rows width (y ∷ placed) ++ x ∷ [])
open_by width y placed x true rises =
    let h = level width (rows_in (y ∷ placed)) in
    let w = window_of width x.row in
    let at : level width (rows_in (y ∷ placed ++ x ∷ [])) ≡ w = level_more width y placed x ∙ max_of_less h w rises in
    ap (λ z. placed_at_from width (window_of width y.row) z (y ∷ placed ++ x ∷ [])) at
    ∙ (at_from-push width (window_of width y.row) w (y ∷ placed) x
    ∙ (ap (λ (had : List Placed). had ++ cond (int_eq (int_max h w) w) (x ∷ []) []) (at_from-above width (window_of width y.row) w (y ∷ placed) rises)
    ∙ ap (λ (t : Bool). cond t (x ∷ []) []) (ap (λ z. int_eq z w) (max_of_less h w rises) ∙ eq_self w)))
open_by width y placed x false stays =
    let h = level width (rows_in (y ∷ placed)) in
    let w = window_of width x.row in
    let at : level width (rows_in (y ∷ placed ++ x ∷ [])) ≡ h = level_more width y placed x ∙ max_of_more h w stays in
    ap (λ z. placed_at_from width (window_of width y.row) z (y ∷ placed ++ x ∷ [])) at
    ∙ (at_from-push width (window_of width y.row) h (y ∷ placed) x
    ∙ ap (λ (t : Bool). open_rows width (y ∷ placed) ++ cond t (x ∷ []) []) (ap (λ z. int_eq z h) (max_of_more h w stays) ∙ eq_self h))

-- ---- what a trail says

pub size_more : (own : List Placed) (x : Placed) → length (own ++ x ∷ []) ≡ length own + 1
size_more own x = length-append own (x ∷ [])

all_behind : (own : List Placed) (x : Placed) (count : ℕ) → count ≡ length own → [] ≡ drop (count + 1) (own ++ x ∷ [])
all_behind own x count is = sym (drop_all (count + 1) (own ++ x ∷ []) (omega (arith, size_more own x)))

last_behind : (own : List Placed) (x : Placed) (count n : ℕ) → count ≡ length own → keep_last n (own ++ x ∷ []) ≡ drop (count + 1 - n) (own ++ x ∷ [])
last_behind own x count n is = ap (λ (m : ℕ). drop (m - n) (own ++ x ∷ [])) (size_more own x ∙ ap (λ (m : ℕ). m + 1) (sym is))

within_by : (spec : OpSpec) (count from : ℕ) (opens : Bool) → from ≤ count → rested_from spec count from opens ≤ count + 1
within_by (op.Keep column compare limit) count from opens few = omega arith
within_by (op.Total by) count from opens few = omega arith
within_by (op.Last by n) count from opens few = omega arith
within_by (op.Window by width) count from true few = omega arith
within_by (op.Window by width) count from false few = omega arith
within_by (op.Crossing by limit) count from opens few = omega arith
within_by (op.Join by width n column compare limit) count from opens few = omega arith

-- the first row of a key
first_rests : (spec : OpSpec) (x : Placed) → resting spec (x ∷ []) ≡ drop (rested_from spec 0 0 true) (x ∷ [])
first_rests (op.Keep column compare limit) x = refl
first_rests (op.Total by) x = refl
first_rests (op.Last by n) x = refl
first_rests (op.Window by width) x = first_open width x
first_rests (op.Crossing by limit) x = refl
first_rests (op.Join by width n column compare limit) x = refl

first_level : (spec : OpSpec) (x : Placed) → window_in spec x.row ≡ level_in spec (rows_in (x ∷ []))
first_level (op.Keep column compare limit) x = refl
first_level (op.Total by) x = refl
first_level (op.Last by n) x = refl
first_level (op.Window by width) x = sym (max_self (window_of width x.row))
first_level (op.Crossing by limit) x = refl
first_level (op.Join by width n column compare limit) x = refl

pub first_tells : (spec : OpSpec) (x : Placed) (trail : Trail) → trail.count ≡ 0 → trail.from ≡ rested_from spec 0 0 true → trail.level ≡ window_in spec x.row → Tells spec [] x trail
first_tells spec x trail count from level = record {
  count = count;
  from = first_rests spec x ∙ ap (λ (n : ℕ). drop n (x ∷ [])) (sym from);
  within = omega (arith, within_by spec 0 0 true (omega arith), from, count);
  level = level ∙ first_level spec x;
}

-- a row behind others of its key, of which the last one is y
window_more : (width : ℤ) (own : List Placed) (y x : Placed) (from : ℕ) (high : ℤ) (opens : Bool) → high ≡ level width (rows_in (own ++ y ∷ [])) → open_rows width (own ++ y ∷ []) ≡ drop from (own ++ y ∷ [])
    → from ≤ length (own ++ y ∷ []) → int_lt high (window_of width x.row) ≡ opens
    → open_rows width ((own ++ y ∷ []) ++ x ∷ []) ≡ drop (cond opens (length (own ++ y ∷ [])) from) ((own ++ y ∷ []) ++ x ∷ [])
window_more width own y x from high opens is rested few rises = go (own ++ y ∷ []) (some own) is rested few
  where
    some : (own : List Placed) → (head : Placed) × (tail : List Placed) × (own ++ y ∷ [] ≡ head ∷ tail)
    some [] = (y, [], refl)
    some (z ∷ zs) = (z, zs ++ y ∷ [], refl)

    by_case : (head : Placed) (tail : List Placed) (t : Bool) → open_rows width (head ∷ tail) ≡ drop from (head ∷ tail) → from ≤ length (head ∷ tail)
        → cond t (x ∷ []) (open_rows width (head ∷ tail) ++ x ∷ []) ≡ drop (cond t (length (head ∷ tail)) from) ((head ∷ tail) ++ x ∷ [])
    by_case head tail true rested few = sym (drop-append_seam (head ∷ tail) (x ∷ []))
    by_case head tail false rested few = ap (λ (had : List Placed). had ++ x ∷ []) rested ∙ sym (drop-append-le from (head ∷ tail) (x ∷ []) few)

    go : (all : List Placed) → ((head : Placed) × (tail : List Placed) × (all ≡ head ∷ tail)) → high ≡ level width (rows_in all) → open_rows width all ≡ drop from all → from ≤ length all
        → open_rows width (all ++ x ∷ []) ≡ drop (cond opens (length all) from) (all ++ x ∷ [])
    go [] s is rested few = absurd (none s.0 s.1 s.2)
      where
        none : (head : Placed) (tail : List Placed) → [] ≡ head ∷ tail → ⊥
        none head tail e = cc
    go (head ∷ tail) s is rested few =
        open_by width head tail x opens (ap (λ z. int_lt z (window_of width x.row)) (sym is) ∙ rises) ∙ by_case head tail opens rested few

next_rests : (spec : OpSpec) (own : List Placed) (y x : Placed) (last : Trail) (count : ℕ) (opens : Bool) → Tells spec own y last → count ≡ length (own ++ y ∷ []) → int_lt last.level (window_in spec x.row) ≡ opens
    → resting spec ((own ++ y ∷ []) ++ x ∷ []) ≡ drop (rested_from spec count last.from opens) ((own ++ y ∷ []) ++ x ∷ [])
next_rests (op.Keep column compare limit) own y x last count opens t is rises = all_behind (own ++ y ∷ []) x count is
next_rests (op.Total by) own y x last count opens t is rises = refl
next_rests (op.Last by n) own y x last count opens t is rises = last_behind (own ++ y ∷ []) x count (n - 1) is
next_rests (op.Window by width) own y x last count opens t is rises =
    window_more width own y x last.from last.level opens t.level t.from (omega (arith, t.within, t.count, size_more own y)) rises
    ∙ ap (λ (n : ℕ). drop (cond opens n last.from) ((own ++ y ∷ []) ++ x ∷ [])) (sym is)
next_rests (op.Crossing by limit) own y x last count opens t is rises = refl
next_rests (op.Join by width n column compare limit) own y x last count opens t is rises = all_behind (own ++ y ∷ []) x count is

window_level : (width : ℤ) (own : List Placed) (y x : Placed) → int_max (level width (rows_in (own ++ y ∷ []))) (window_of width x.row) ≡ level width (rows_in ((own ++ y ∷ []) ++ x ∷ []))
window_level width [] y x = sym (level_more width y [] x)
window_level width (z ∷ own) y x = sym (level_more width z (own ++ y ∷ []) x)

next_level : (spec : OpSpec) (own : List Placed) (y x : Placed) → int_max (level_in spec (rows_in (own ++ y ∷ []))) (window_in spec x.row) ≡ level_in spec (rows_in ((own ++ y ∷ []) ++ x ∷ []))
next_level (op.Keep column compare limit) own y x = max_self (pos 0)
next_level (op.Total by) own y x = max_self (pos 0)
next_level (op.Last by n) own y x = max_self (pos 0)
next_level (op.Window by width) own y x = window_level width own y x
next_level (op.Crossing by limit) own y x = max_self (pos 0)
next_level (op.Join by width n column compare limit) own y x = max_self (pos 0)

pub next_tells : (spec : OpSpec) (own : List Placed) (y x : Placed) (last trail : Trail) (opens : Bool) → Tells spec own y last → trail.count ≡ last.count + 1
    → trail.from ≡ rested_from spec trail.count last.from opens → int_lt last.level (window_in spec x.row) ≡ opens → trail.level ≡ int_max last.level (window_in spec x.row) → Tells spec (own ++ y ∷ []) x trail
next_tells spec own y x last trail opens t count from rises high =
    let size : trail.count ≡ length (own ++ y ∷ []) = omega (arith, count, t.count, size_more own y) in
    record {
      count = size;
      from = next_rests spec own y x last trail.count opens t size rises ∙ ap (λ (n : ℕ). drop n ((own ++ y ∷ []) ++ x ∷ [])) (sym from);
      within = omega (arith, from, within_by spec trail.count last.from opens (omega (arith, t.within, count)));
      level = high ∙ (ap (λ z. int_max z (window_in spec x.row)) t.level ∙ next_level spec own y x);
    }

-- ---- the rows of a partition and a key

pub own-some : (stage : Stage) (rows : List Row) (n : ℕ) (o : Option Row) (r : Row) → o ≡ Some r → own_of stage rows n o ≡ own_among stage rows n (route_of r stage.by stage.parts) (key_of (keyed_by stage.op) r)
own-some stage rows n o r is = ap (own_of stage rows n) is

-- those up to a row are those before it and itself
pub upto_is : (stage : Stage) (rows : List Row) (place : ℕ) (r d : Row) → place < length rows → slice_get rows place ≡ Some r → r ≡ get_or rows place d
    → own_upto stage rows place ≡ own_before stage rows place ++ record { place = place; row = r } ∷ []
upto_is stage rows place r d l at is =
    let q = route_of r stage.by stage.parts in
    let k = key_of (keyed_by stage.op) r in
    let g = get_or rows place d in
    let goes : true ≡ ((route_of g stage.by stage.parts == q) && is_key (key_of (keyed_by stage.op) g) k) =
    sym (ap (λ (z : Row). (route_of z stage.by stage.parts == q) && is_key (key_of (keyed_by stage.op) z) k) (sym is)
    ∙ (ap (λ (b : Bool). b && is_key k k) (eq-eqb q q refl) ∙ self_key k)) in
    own-some stage rows (place + 1) (slice_get rows place) r at
    ∙ (keyed-more (keyed_by stage.op) k stage q rows place d true l goes
    ∙ (ap (λ (had : List Placed). had ++ record { place = place; row = g } ∷ []) (sym (own-some stage rows place (slice_get rows place) r at))
    ∙ ap (λ (z : Row). own_before stage rows place ++ record { place = place; row = z } ∷ []) (sym is)))
