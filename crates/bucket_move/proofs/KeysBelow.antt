-- The keys of a partition's buckets, bucket by bucket.
use Rattle.std.proofs.Common.{ℕ, ◌≡◌, ◌<◌, ◌≤◌, ◌+◌, suc, ℤ, pos, negsuc, Bool, true, false, cond, List, [], ◌∷◌, length, refl, sym, ap, ◌∙◌, arith}
use Rattle.std.specs.Prelude.{◌==◌, ◌&&◌, ◌||◌, nat_lt, unsigned_abs}
use Rattle.std.specs.Int.{int_rem_euclid}
use Rattle.std.specs.List.{filter}
use Rattle.std.proofs.Math.Nat.{mod-lt}
use Rattle.std.proofs.lemmas.Bool.{eq-eqb, eqb-true}
use Rattle.std.proofs.lemmas.Bool.Decides.{nat_tests}
use Rattle.tuple_edge.specs.Row.{column_of}
use Rattle.tuple_edge.specs.declared.row.Column.{Column}
use Rattle.tuple_edge.specs.declared.row.Row.{Row}
use Rattle.text_words.proofs.LineFacts.{both_true}
use Rattle.plan_reader.specs.declared.stage.Stage.{Stage}
use Rattle.bucket_move.specs.BucketsView.{keys_at, part_of}
use Rattle.bucket_move.specs.ByKey.{is_keyed}
use Rattle.bucket_move.specs.Limits.{buckets}
use Rattle.bucket_move.specs.Rows.{bucket_of, rows_in}
use Rattle.bucket_move.proofs.KeyCounts.{key_count, keys_few, keys_split}

rem_below : (z : ℤ) (n : ℕ) → 1 ≤ n → unsigned_abs (int_rem_euclid z (pos n)) < n
rem_below (pos a) n some = mod-lt a some
rem_below (negsuc a) n some = omega (arith, mod-lt a some)

-- a row is of one of the buckets
pub bucket_below : (c : Column) (r : Row) → bucket_of c r < buckets
bucket_below c r = rem_below (column_of c r) buckets (omega arith)

filter_same : (f g : Row → Bool) (rows : List Row) → ((x : Row) → f x ≡ g x) → filter f rows ≡ filter g rows
filter_same f g [] same = refl
filter_same f g (x ∷ rows) same = ap (λ (t : Bool). cond t (x ∷ filter f rows) (filter f rows)) (same x) ∙ ap (λ (rest : List Row). cond (g x) (x ∷ rest) rest) (filter_same f g rows same)

pub filter_few : (f : Row → Bool) (rows : List Row) → length (filter f rows) ≤ length rows
filter_few f [] = omega arith
filter_few f (x ∷ rows) = by_test (f x) (filter_few f rows)
  where
    by_test : (t : Bool) → length (filter f rows) ≤ length rows → length (cond t (x ∷ filter f rows) (filter f rows)) ≤ suc (length rows)
    by_test true later = omega arith
    by_test false later = omega arith

-- ---- tests of numbers

below_more : (b n : ℕ) → nat_lt b (suc n) ≡ (nat_lt b n || (b == n))
below_more b n = grind (arith, nat_tests)

tests_here : (t : Bool) (b n : ℕ) → ((b == n) ≡ true → t ≡ true) → (t && nat_lt b (suc n)) ≡ ((t && nat_lt b n) || (b == n))
tests_here true b n there = below_more b n
tests_here false b n there = by_test (b == n) there
  where
    by_test : (u : Bool) → (u ≡ true → false ≡ true) → false ≡ u
    by_test true there = there refl
    by_test false there = refl

tests_away : (t : Bool) (b n : ℕ) → ((b == n) ≡ true → t ≡ true → ⊥) → (t && nat_lt b (suc n)) ≡ (t && nat_lt b n)
tests_away true b n away = below_more b n ∙ by_test (nat_lt b n) (b == n) (λ here. away here refl)
  where
    by_test : (l u : Bool) → (u ≡ true → ⊥) → (l || u) ≡ l
    by_test true u away = refl
    by_test false true away = absurd (away refl)
    by_test false false away = refl
tests_away false b n away = refl

no_below : (b c n : ℕ) → nat_lt b n ≡ true → (c == n) ≡ true → b ≡ c → ⊥
no_below b c n less is same =
    let below : b < n = grind (arith, nat_tests, less) in
    let at : c ≡ n = eqb-true c n is in
    omega (arith, below, at, same)

module _ (stage : Stage) (table : List ℕ) (part : ℕ) where
  -- whether a row's bucket is at the partition
  abbrev is_there : Row → Bool
  is_there r = part_of table (bucket_of stage.by r) == part

  abbrev is_below : ℕ → Row → Bool
  is_below n r = is_there r && nat_lt (bucket_of stage.by r) n

  abbrev is_of : ℕ → Row → Bool
  is_of n r = bucket_of stage.by r == n

  -- the keys of the partition's buckets below n
  abbrev pub keys_below : ℕ → List Row → ℕ
  keys_below n rows = key_count stage.op (filter (is_below n) rows)

  below_none : (r : Row) (t : Bool) → is_there r ≡ t → is_below 0 r ≡ false
  below_none r true is = rw is (grind (arith, nat_tests))
  below_none r false is = rw is refl

  none : (rows : List Row) → filter (is_below 0) rows ≡ []
  none [] = refl
  none (r ∷ rows) = ap (λ (t : Bool). cond t (r ∷ filter (is_below 0) rows) (filter (is_below 0) rows)) (below_none r (is_there r) refl) ∙ none rows

  below_all : (r : Row) (t : Bool) → is_there r ≡ t → is_below buckets r ≡ is_there r
  below_all r true is = let inside = bucket_below stage.by r in rw is (grind (arith, nat_tests))
  below_all r false is = rw is refl

  pub keys_below-all : (rows : List Row) → keys_below buckets rows ≡ keys_at stage table part rows
  keys_below-all rows = ap (key_count stage.op) (filter_same (is_below buckets) is_there rows (λ r. below_all r (is_there r) refl))

  more : (n : ℕ) (r : Row) → part_of table n ≡ part → is_below (suc n) r ≡ (is_below n r || is_of n r)
  more n r at = tests_here (is_there r) (bucket_of stage.by r) n
      (λ here. eq-eqb (part_of table (bucket_of stage.by r)) part (ap (part_of table) (eqb-true (bucket_of stage.by r) n here) ∙ at))

  pub keys_below-here : (n : ℕ) (rows : List Row) → is_keyed stage.by stage.op ≡ true → part_of table n ≡ part
      → keys_below (suc n) rows ≡ keys_below n rows + key_count stage.op (rows_in stage.by n rows)
  keys_below-here n rows keyed at =
      ap (key_count stage.op) (filter_same (is_below (suc n)) (λ r. is_below n r || is_of n r) rows (λ r. more n r at))
      ∙ keys_split stage.by (is_below n) (is_of n) (λ x y below of same. no_below (bucket_of stage.by x) (bucket_of stage.by y) n (both_true (is_there x) (nat_lt (bucket_of stage.by x) n) below).1 of same) stage.op rows keyed

  same : (n : ℕ) (r : Row) → (part_of table n ≡ part → ⊥) → is_below (suc n) r ≡ is_below n r
  same n r away = tests_away (is_there r) (bucket_of stage.by r) n (λ here there. away (sym (ap (part_of table) (eqb-true (bucket_of stage.by r) n here)) ∙ eqb-true (part_of table (bucket_of stage.by r)) part there))

  pub keys_below-elsewhere : (n : ℕ) (rows : List Row) → (part_of table n ≡ part → ⊥) → keys_below (suc n) rows ≡ keys_below n rows
  keys_below-elsewhere n rows away = ap (key_count stage.op) (filter_same (is_below (suc n)) (is_below n) rows (λ r. same n r away))

  pub keys_below-few : (n : ℕ) (rows : List Row) → is_keyed stage.by stage.op ≡ true → keys_below n rows ≤ length rows
  keys_below-few n rows keyed =
      let keys = keys_few stage.by stage.op (filter (is_below n) rows) keyed in
      let some = filter_few (is_below n) rows in
      omega (arith, keys, some)

  pub keys_below-none : (rows : List Row) → is_keyed stage.by stage.op ≡ true → keys_below 0 rows ≡ 0
  keys_below-none rows keyed =
      let keys = keys_few stage.by stage.op [] keyed in
      ap (key_count stage.op) (none rows) ∙ omega (arith, keys)
