-- The canonical words of a plan read back as the plan.
use Rattle.std.proofs.Common.{ℕ, ℤ, pos, negsuc, ◌≡◌, ◌<◌, ◌≤◌, true, List, [], ◌∷◌, refl, arith}
use Rattle.std.specs.Prelude.{Ok, nat_le, unsigned_abs}
use Rattle.std.specs.Fmt.{decimal, signed_decimal}
use Rattle.std.proofs.lemmas.Bool.Decides.{nat_tests}
use Rattle.std.proofs.lemmas.Int.{ints}
use Rattle.op_spec.specs.Limits.{max_join_rows, max_last_rows, max_window_seconds}
use Rattle.op_spec.specs.Spec.{IsSpec}
use Rattle.op_spec.specs.declared.spec.By.{By}
use Rattle.op_spec.specs.declared.spec.By.TheVariants as by
use Rattle.op_spec.specs.declared.spec.Compare.{Compare}
use Rattle.op_spec.specs.declared.spec.Compare.TheVariants as compare
use Rattle.op_spec.specs.declared.spec.OpSpec.{OpSpec}
use Rattle.op_spec.specs.declared.spec.OpSpec.TheVariants as op
use Rattle.tuple_edge.specs.Sum.{IsWithin, big}
use Rattle.tuple_edge.specs.declared.row.Column.{Column}
use Rattle.tuple_edge.specs.declared.row.Column.TheVariants as column
use Rattle.text_words.specs.Lines.{Word}
use Rattle.text_words.proofs.NumberWords.{number_of_decimal, signed_number_of_decimal}
use Rattle.plan_reader.specs.Grammar.{by_at, column_at, compare_at, comparison_at, key_and_number_at, limit_at, number_at, number_within}
use Rattle.plan_reader.specs.Operators.{crossing_at, join_at, keep_at, last_at, op_at, total_at, window_at}
use Rattle.plan_reader.specs.PlanView.{IsLimit}
use Rattle.plan_reader.specs.Text.{by_name, column_name, compare_name, op_words}

-- ---- words

pub number_back : (n : ℕ) (rest : List Word) → n < 10000000000000000000 → number_at (decimal n ∷ rest) ≡ Ok (n, rest)
unfolding number_at
number_back n rest small = rw (number_of_decimal n small) refl

pub number_within_back : (low high n : ℕ) (rest : List Word) → low ≤ n → n ≤ high → high < 10000000000000000000 → number_within low high (decimal n ∷ rest) ≡ Ok (n, rest)
unfolding number_within
number_within_back low high n rest above below small =
    let least : nat_le low n ≡ true = grind (arith, nat_tests) in
    let most : nat_le n high ≡ true = grind (arith, nat_tests) in
    rw (number_back n rest (omega (arith, below, small)), least, most) refl

limit_back : (z : ℤ) (rest : List Word) → IsWithin z → limit_at (signed_decimal z ∷ rest) ≡ Ok (z, rest)
unfolding limit_at
limit_back z rest within =
    let small : unsigned_abs z ≤ big = omega (arith, ints, within.low, within.high) in
    let test : nat_le (unsigned_abs z) big ≡ true = grind (arith, nat_tests) in
    rw (signed_number_of_decimal z (omega (arith, small)), test) refl

pub column_back : (c : Column) (rest : List Word) → column_at (column_name c ∷ rest) ≡ Ok (c, rest)
unfolding column_at
column_back column.Time rest = refl
column_back column.Account rest = refl
column_back column.Symbol rest = refl
column_back column.Qty rest = refl
column_back column.Value rest = refl

by_back : (b : By) (rest : List Word) → by_at (by_name b ∷ rest) ≡ Ok (b, rest)
unfolding by_at
by_back by.Account rest = refl
by_back by.Symbol rest = refl
by_back by.Both rest = refl

compare_back : (c : Compare) (rest : List Word) → compare_at (compare_name c ∷ rest) ≡ Ok (c, rest)
unfolding compare_at
compare_back compare.Less rest = refl
compare_back compare.AtMost rest = refl
compare_back compare.Equal rest = refl
compare_back compare.Unequal rest = refl
compare_back compare.AtLeast rest = refl
compare_back compare.Greater rest = refl

-- ---- settings

keyed_back : (low high : ℕ) (b : By) (n : ℕ) (rest : List Word) → low ≤ n → n ≤ high → high < 10000000000000000000
    → key_and_number_at low high (by_name b ∷ decimal n ∷ rest) ≡ Ok ((b, n), rest)
unfolding key_and_number_at
keyed_back low high b n rest above below small = rw (by_back b (decimal n ∷ rest), number_within_back low high n rest above below small) refl

comparison_back : (c : Column) (k : Compare) (z : ℤ) (rest : List Word) → IsWithin z
    → comparison_at (column_name c ∷ compare_name k ∷ signed_decimal z ∷ rest) ≡ Ok ((c, k, z), rest)
unfolding comparison_at
comparison_back c k z rest within =
    rw (column_back c (compare_name k ∷ signed_decimal z ∷ rest), compare_back k (signed_decimal z ∷ rest), limit_back z rest within) refl

-- ---- operators

keep_back : (c : Column) (k : Compare) (z : ℤ) → IsWithin z → keep_at (column_name c ∷ compare_name k ∷ signed_decimal z ∷ []) ≡ Ok (op.Keep c k z, [])
unfolding keep_at
keep_back c k z within = rw (comparison_back c k z [] within) refl

total_back : (b : By) → total_at (by_name b ∷ []) ≡ Ok (op.Total b, [])
unfolding total_at
total_back b = rw (by_back b []) refl

last_back : (b : By) (rows : ℕ) → 1 ≤ rows → rows ≤ max_last_rows → last_at (by_name b ∷ decimal rows ∷ []) ≡ Ok (op.Last b rows, [])
unfolding last_at
last_back b rows low high = rw (keyed_back 1 max_last_rows b rows [] low high (omega arith)) refl

window_back : (b : By) (n : ℕ) → 1 ≤ n → n ≤ unsigned_abs max_window_seconds → window_at (by_name b ∷ decimal n ∷ []) ≡ Ok (op.Window b (pos n), [])
unfolding window_at
window_back b n low high = rw (keyed_back 1 (unsigned_abs max_window_seconds) b n [] low high (omega arith)) refl

crossing_back : (b : By) (n : ℕ) → n ≤ big → crossing_at (by_name b ∷ decimal n ∷ []) ≡ Ok (op.Crossing b (pos n), [])
unfolding crossing_at
crossing_back b n high = rw (keyed_back 0 big b n [] (omega arith) high (omega arith)) refl

join_back : (b : By) (n rows : ℕ) (c : Column) (k : Compare) (z : ℤ) → 1 ≤ n → n ≤ unsigned_abs max_window_seconds → 1 ≤ rows → rows ≤ max_join_rows → IsWithin z
    → join_at (by_name b ∷ decimal n ∷ decimal rows ∷ column_name c ∷ compare_name k ∷ signed_decimal z ∷ []) ≡ Ok (op.Join b (pos n) rows c k z, [])
unfolding join_at
join_back b n rows c k z some wide low high within =
    let test = column_name c ∷ compare_name k ∷ signed_decimal z ∷ [] in
    rw (
      keyed_back 1 (unsigned_abs max_window_seconds) b n (decimal rows ∷ test) some wide (omega arith),
      number_within_back 1 max_join_rows rows test low high (omega arith),
      comparison_back c k z [] within,
    ) refl

pub op_back : (o : OpSpec) → IsSpec o → IsLimit o → op_at (op_words o) ≡ Ok (o, [])
unfolding op_at
op_back (op.Keep c k z) spec limit = keep_back c k z limit
op_back (op.Total b) spec limit = total_back b
op_back (op.Last b rows) spec limit = last_back b rows spec.0 spec.1
op_back (op.Window b (pos n)) spec limit = window_back b n (omega (arith, ints, spec.0)) (omega (arith, ints, spec.1))
op_back (op.Window b (negsuc n)) spec limit = absurd (omega (arith, ints, spec.0))
op_back (op.Crossing b (pos n)) spec limit = crossing_back b n (omega (arith, ints, limit.high))
op_back (op.Crossing b (negsuc n)) spec limit = absurd (omega (arith, ints, spec))
op_back (op.Join b (pos n) rows c k z) spec limit = join_back b n rows c k z (omega (arith, ints, spec.0)) (omega (arith, ints, spec.1)) spec.2 spec.3 limit
op_back (op.Join b (negsuc n) rows c k z) spec limit = absurd (omega (arith, ints, spec.0))
