-- The end's answer in a partition is what one partition's end answers for the keys that go there.
use Rattle.std.proofs.Common.{ℕ, ℤ, ◌≡◌, ◌≤◌, ◌<◌, Bool, true, false, cond, List, [], ◌∷◌, map, refl, sym, ap, ◌∙◌, arith, pos, inl, inr}
use Rattle.std.specs.Prelude.{◌==◌, fold, nat_lt, unsigned_abs}
use Rattle.std.specs.Int.{int_rem_euclid}
use Rattle.std.specs.List.{filter}
use Rattle.std.specs.Ordering.{ordering_reverse}
use Rattle.std.specs.declared.cmp.Ordering.{Ordering}
use Rattle.std.specs.declared.cmp.Ordering.TheVariants.{Less, Equal, Greater}
use Rattle.std.proofs.lemmas.Bool.{cases_Bool, false≢true, eq-eqb}
use Rattle.std.proofs.lemmas.Bool.Decides.{nat_tests}
use Rattle.tuple_edge.specs.Row.{column_of, route_of}
use Rattle.tuple_edge.specs.declared.row.Column.{Column}
use Rattle.tuple_edge.specs.declared.row.Column.TheVariants as column
use Rattle.tuple_edge.specs.declared.row.Key.{Key}
use Rattle.tuple_edge.specs.declared.row.Row.{Row}
use Rattle.op_spec.specs.Keys.{is_key, key_cmp, key_of}
use Rattle.op_spec.specs.declared.spec.By.{By}
use Rattle.op_spec.specs.declared.spec.By.TheVariants as by
use Rattle.op_spec.specs.declared.spec.OpSpec.{OpSpec}
use Rattle.op_spec.specs.declared.spec.OpSpec.TheVariants as op
use Rattle.stream_ops.specs.Answers.{end_answer, window_row}
use Rattle.stream_ops.specs.Rows.{keys_among, keys_in, rows_with, with_key}
use Rattle.stream_ops.proofs.Keyed.{key_cmp_total, same_key}
use Rattle.plan_reader.specs.declared.stage.Stage.{Stage}
use Rattle.bucket_move.specs.ByKey.{holds_column}
use Rattle.bucket_move.specs.Rows.{items_of}
use Rattle.bucket_move.proofs.ByKeyAnswers.{rows_of-items_of}
use Rattle.plan_check.specs.Laws.{EndsStayTogether, rows_at}
use Rattle.plan_check.specs.Sums.{adds_up, key_holds, key_in}
use Rattle.plan_check.proofs.Passing.{all_pass, filter_within, to_one}

-- ---- keys in their order

-- a key is below each of these
abbrev IsBelow : Key → List Key → Type 0
IsBelow k [] = Unit {0}
IsBelow k (q ∷ keys) = (key_cmp k q ≡ Less) × IsBelow k keys

-- each key is below those behind it
abbrev Ascend : List Key → Type 0
Ascend [] = Unit {0}
Ascend (k ∷ keys) = IsBelow k keys × Ascend keys

still_below : (k q : Key) (keys : List Key) → key_cmp k q ≡ Less → IsBelow q keys → IsBelow k keys
still_below k q [] less below = tt
still_below k q (e ∷ keys) less below = (key_cmp_total.trans k q e less below.0, still_below k q keys less below.1)

below_by : (e k q : Key) (keys : List Key) (o : Ordering) → key_cmp k q ≡ o → key_cmp e k ≡ Less → IsBelow e (q ∷ keys) → IsBelow e (with_key k keys) → IsBelow e (with_key k (q ∷ keys))
below_by e k q keys Less is less below later = rw is (less, below)
below_by e k q keys Equal is less below later = rw is below
below_by e k q keys Greater is less below later = rw is (below.0, later)

below_with : (e k : Key) (keys : List Key) → key_cmp e k ≡ Less → IsBelow e keys → IsBelow e (with_key k keys)
below_with e k [] less below = (less, tt)
below_with e k (q ∷ keys) less below = below_by e k q keys (key_cmp k q) refl less below (below_with e k keys less below.1)

ascend_by : (k q : Key) (keys : List Key) (o : Ordering) → key_cmp k q ≡ o → Ascend (q ∷ keys) → Ascend (with_key k keys) → Ascend (with_key k (q ∷ keys))
ascend_by k q keys Less is ascends later = rw is ((is, still_below k q keys is ascends.0), ascends)
ascend_by k q keys Equal is ascends later = rw is ascends
ascend_by k q keys Greater is ascends later = rw is (below_with q k keys (key_cmp_total.antisymm q k ∙ ap ordering_reverse is) ascends.0, later)

ascend_with : (k : Key) (keys : List Key) → Ascend keys → Ascend (with_key k keys)
ascend_with k [] ascends = (tt, tt)
ascend_with k (q ∷ keys) ascends = ascend_by k q keys (key_cmp k q) refl ascends (ascend_with k keys ascends.1)

-- a key below all others is the first one
with_first : (k : Key) (keys : List Key) → IsBelow k keys → with_key k keys ≡ k ∷ keys
with_first k [] below = refl
with_first k (q ∷ keys) below = rw below.0 refl

-- ---- keys that pass a test

filter_below : (k : Key) (g : Key → Bool) (keys : List Key) → IsBelow k keys → IsBelow k (filter g keys)
filter_below k g [] below = tt
filter_below k g (q ∷ keys) below = by_test (g q) (filter_below k g keys below.1)
  where
    by_test : (t : Bool) → IsBelow k (filter g keys) → IsBelow k (cond t (q ∷ filter g keys) (filter g keys))
    by_test true later = (below.0, later)
    by_test false later = later

module _ (g : Key → Bool) (k : Key) where
  -- with one key more that passes
  passed_greater : (q : Key) (keys : List Key) (t : Bool) → g q ≡ t → key_cmp k q ≡ Greater → filter g (with_key k keys) ≡ with_key k (filter g keys)
      → cond t (q ∷ filter g (with_key k keys)) (filter g (with_key k keys)) ≡ with_key k (cond t (q ∷ filter g keys) (filter g keys))
  passed_greater q keys true here is later = rw is (ap (λ ks. q ∷ ks) later)
  passed_greater q keys false here is later = later

  passed_by : (q : Key) (keys : List Key) (o : Ordering) → key_cmp k q ≡ o → g k ≡ true → Ascend (q ∷ keys) → filter g (with_key k keys) ≡ with_key k (filter g keys)
      → filter g (with_key k (q ∷ keys)) ≡ with_key k (filter g (q ∷ keys))
  passed_by q keys Less is passes ascends later =
      let first : with_key k (q ∷ keys) ≡ k ∷ q ∷ keys = rw is refl in
      let below : IsBelow k (filter g (q ∷ keys)) = filter_below k g (q ∷ keys) (is, still_below k q keys is ascends.0) in
      let there : filter g (k ∷ q ∷ keys) ≡ k ∷ filter g (q ∷ keys) = rw passes refl in
      ap (filter g) first ∙ there ∙ sym (with_first k (filter g (q ∷ keys)) below)
  passed_by q keys Equal is passes ascends later =
      let same : k ≡ q = same_key k q (rw is refl) in
      let had : with_key k (q ∷ keys) ≡ q ∷ keys = rw is refl in
      let stays : with_key k (q ∷ filter g keys) ≡ q ∷ filter g keys = rw is refl in
      let here : filter g (q ∷ keys) ≡ q ∷ filter g keys = rw (ap g (sym same) ∙ passes) refl in
      ap (filter g) had ∙ here ∙ sym stays ∙ ap (with_key k) (sym here)
  passed_by q keys Greater is passes ascends later =
      let behind : with_key k (q ∷ keys) ≡ q ∷ with_key k keys = rw is refl in
      ap (filter g) behind ∙ passed_greater q keys (g q) refl is later

  with_passed : (keys : List Key) → g k ≡ true → Ascend keys → filter g (with_key k keys) ≡ with_key k (filter g keys)
  with_passed [] passes ascends = rw passes refl
  with_passed (q ∷ keys) passes ascends = passed_by q keys (key_cmp k q) refl passes ascends (with_passed keys passes ascends.1)

  -- with one key more that doesn't pass
  failed_by : (q : Key) (keys : List Key) (o : Ordering) → key_cmp k q ≡ o → g k ≡ false → filter g (with_key k keys) ≡ filter g keys → filter g (with_key k (q ∷ keys)) ≡ filter g (q ∷ keys)
  failed_by q keys Less is fails later =
      let first : with_key k (q ∷ keys) ≡ k ∷ q ∷ keys = rw is refl in
      let there : filter g (k ∷ q ∷ keys) ≡ filter g (q ∷ keys) = rw fails refl in
      ap (filter g) first ∙ there
  failed_by q keys Equal is fails later =
      let had : with_key k (q ∷ keys) ≡ q ∷ keys = rw is refl in
      ap (filter g) had
  failed_by q keys Greater is fails later =
      let behind : with_key k (q ∷ keys) ≡ q ∷ with_key k keys = rw is refl in
      ap (filter g) behind ∙ ap (λ (ks : List Key). cond (g q) (q ∷ ks) ks) later

  with_failed : (keys : List Key) → g k ≡ false → filter g (with_key k keys) ≡ filter g keys
  with_failed [] fails = rw fails refl
  with_failed (q ∷ keys) fails = failed_by q keys (key_cmp k q) refl fails (with_failed keys fails)

-- the keys of the rows that pass are the keys that pass
module _ (key : By) (g : Key → Bool) (p : Row → Bool) (agree : (x : Row) → p x ≡ g (key_of key x)) where
  abbrev more : List Key → Row → List Key
  more keys r = with_key (key_of key r) keys

  keys_from : (rows : List Row) (keys : List Key) → Ascend keys → fold more (filter g keys) (filter p rows) ≡ filter g (fold more keys rows)
  keys_from [] keys ascends = refl
  keys_from (x ∷ rows) keys ascends = by_test (p x) refl (keys_from rows (more keys x) (ascend_with (key_of key x) keys ascends))
    where
      by_test : (t : Bool) → p x ≡ t → fold more (filter g (more keys x)) (filter p rows) ≡ filter g (fold more (more keys x) rows)
          → fold more (filter g keys) (cond t (x ∷ filter p rows) (filter p rows)) ≡ filter g (fold more (more keys x) rows)
      by_test true passes later = ap (λ (ks : List Key). fold more ks (filter p rows)) (sym (with_passed g (key_of key x) keys (sym (agree x) ∙ passes) ascends)) ∙ later
      by_test false fails later = ap (λ (ks : List Key). fold more ks (filter p rows)) (sym (with_failed g (key_of key x) keys (sym (agree x) ∙ fails))) ∙ later

  pub keys_pass : (rows : List Row) → keys_among key (filter p rows) ≡ filter g (keys_among key rows)
  keys_pass rows = keys_from rows [] tt

-- ---- rows made of keys

pub rows_of_passed : (f : Row → Bool) (g : Key → Bool) (made : Key → Row) → ((k : Key) → f (made k) ≡ g k) → (keys : List Key) → filter f (map made keys) ≡ map made (filter g keys)
rows_of_passed f g made agree [] = refl
rows_of_passed f g made agree (k ∷ keys) = by_test (g k) (agree k) (rows_of_passed f g made agree keys)
  where
    by_test : (t : Bool) → f (made k) ≡ t → filter f (map made keys) ≡ map made (filter g keys)
        → cond (f (made k)) (made k ∷ filter f (map made keys)) (filter f (map made keys)) ≡ map made (cond t (k ∷ filter g keys) (filter g keys))
    by_test true passes later = rw passes (ap (λ rest. made k ∷ rest) later)
    by_test false fails later = rw fails later

pub made_alike : (g : Key → Bool) (one another : Key → Row) → ((k : Key) → g k ≡ true → one k ≡ another k) → (keys : List Key) → map one (filter g keys) ≡ map another (filter g keys)
made_alike g one another alike [] = refl
made_alike g one another alike (k ∷ keys) = by_test (g k) refl (made_alike g one another alike keys)
  where
    by_test : (t : Bool) → g k ≡ t → map one (filter g keys) ≡ map another (filter g keys) → map one (cond t (k ∷ filter g keys) (filter g keys)) ≡ map another (cond t (k ∷ filter g keys) (filter g keys))
    by_test true passes later = rw (alike k passes) (ap (λ rest. another k ∷ rest) later)
    by_test false fails later = later

-- ---- a window whose key holds the column

-- what a key has in a column that it holds
abbrev pub of_key : Column → Key → ℤ
of_key column.Account k = k.account
of_key column.Symbol k = k.symbol
of_key column.Time k = pos 0
of_key column.Qty k = pos 0
of_key column.Value k = pos 0

-- so has each row of the key, and the row that tells of its window
pub in_row : (key : By) (c : Column) (x : Row) → holds_column key c ≡ true → column_of c x ≡ of_key c (key_of key x)
in_row by.Account column.Account x holds = refl
in_row by.Account column.Symbol x holds = absurd (false≢true holds)
in_row by.Account column.Time x holds = absurd (false≢true holds)
in_row by.Account column.Qty x holds = absurd (false≢true holds)
in_row by.Account column.Value x holds = absurd (false≢true holds)
in_row by.Symbol column.Account x holds = absurd (false≢true holds)
in_row by.Symbol column.Symbol x holds = refl
in_row by.Symbol column.Time x holds = absurd (false≢true holds)
in_row by.Symbol column.Qty x holds = absurd (false≢true holds)
in_row by.Symbol column.Value x holds = absurd (false≢true holds)
in_row by.Both column.Account x holds = refl
in_row by.Both column.Symbol x holds = refl
in_row by.Both column.Time x holds = absurd (false≢true holds)
in_row by.Both column.Qty x holds = absurd (false≢true holds)
in_row by.Both column.Value x holds = absurd (false≢true holds)

in_window : (key : By) (c : Column) (width : ℤ) (k : Key) (rows : List Row) → holds_column key c ≡ true → column_of c (window_row width k rows) ≡ of_key c k
in_window key column.Account width k rows holds = refl
in_window key column.Symbol width k rows holds = refl
in_window by.Account column.Time width k rows holds = absurd (false≢true holds)
in_window by.Account column.Qty width k rows holds = absurd (false≢true holds)
in_window by.Account column.Value width k rows holds = absurd (false≢true holds)
in_window by.Symbol column.Time width k rows holds = absurd (false≢true holds)
in_window by.Symbol column.Qty width k rows holds = absurd (false≢true holds)
in_window by.Symbol column.Value width k rows holds = absurd (false≢true holds)
in_window by.Both column.Time width k rows holds = absurd (false≢true holds)
in_window by.Both column.Qty width k rows holds = absurd (false≢true holds)
in_window by.Both column.Value width k rows holds = absurd (false≢true holds)

module _ (s : Stage) (part : ℕ) (key : By) (width : ℤ) (holds : holds_column key s.by ≡ true) where
  -- whether rows with this value go to the partition
  abbrev goes : ℤ → Bool
  goes z = unsigned_abs (int_rem_euclid z (pos s.parts)) == part

  abbrev row_goes : Row → Bool
  row_goes x = route_of x s.by s.parts == part

  abbrev key_goes : Key → Bool
  key_goes k = goes (of_key s.by k)

  agree : (x : Row) → row_goes x ≡ key_goes (key_of key x)
  agree x = ap goes (in_row key s.by x holds)

  abbrev told : List Row → Key → Row
  told rows k = window_row width k (rows_with key (items_of rows) k)

  -- the partition has all rows of a key that goes there
  rows_there : (rows : List Row) (k : Key) → key_goes k ≡ true → rows_with key (items_of (filter row_goes rows)) k ≡ rows_with key (items_of rows) k
  rows_there rows k there =
      let test : Row → Bool = λ x. is_key (key_of key x) k in
      ap (filter test) (rows_of-items_of (filter row_goes rows))
      ∙ filter_within test row_goes rows (λ x same. agree x ∙ ap key_goes (same_key (key_of key x) k same) ∙ there)
      ∙ ap (filter test) (sym (rows_of-items_of rows))

  window_end : (rows : List Row) → end_answer (op.Window key width) (items_of (filter row_goes rows)) ≡ filter row_goes (end_answer (op.Window key width) (items_of rows))
  window_end rows =
      let keys : keys_in key (items_of (filter row_goes rows)) ≡ filter key_goes (keys_in key (items_of rows)) =
      ap (keys_among key) (rows_of-items_of (filter row_goes rows)) ∙ keys_pass key key_goes row_goes agree rows ∙ ap (λ (rs : List Row). filter key_goes (keys_among key rs)) (sym (rows_of-items_of rows)) in
      ap (map (told (filter row_goes rows))) keys
      ∙ made_alike key_goes (told (filter row_goes rows)) (told rows) (λ k there. ap (window_row width k) (rows_there rows k there)) (keys_in key (items_of rows))
      ∙ sym (rows_of_passed row_goes key_goes (told rows) (λ k. ap goes (in_window key s.by width k (rows_with key (items_of rows) k) holds)) (keys_in key (items_of rows)))

-- ---- the law

-- of one partition, all rows go there
end_one : (s : Stage) (part : ℕ) (before : List Row) → s.parts ≡ 1 → part < s.parts → end_answer s.op (items_of (rows_at s part before)) ≡ rows_at s part (end_answer s.op (items_of before))
end_one s part before one below =
    let passes : (x : Row) → (route_of x s.by s.parts == part) ≡ true =
    λ x. (let there : route_of x s.by s.parts ≡ part = omega (arith, one, below, to_one s x one) in eq-eqb (route_of x s.by s.parts) part there) in
    let all : (rows : List Row) → rows_at s part rows ≡ rows = λ rows. all_pass (λ x. route_of x s.by s.parts == part) rows passes in
    ap (λ (rows : List Row). end_answer s.op (items_of rows)) (all before) ∙ sym (all (end_answer s.op (items_of before)))

-- where the key holds the column, and of an operator that adds up nothing
end_held : (s : Stage) (part : ℕ) (before : List Row) (spec : OpSpec) → key_holds (key_in spec) s.by ≡ true
    → end_answer spec (items_of (rows_at s part before)) ≡ rows_at s part (end_answer spec (items_of before))
end_held s part before (op.Keep column compare limit) holds = refl
end_held s part before (op.Total key) holds = refl
end_held s part before (op.Last key n) holds = refl
end_held s part before (op.Window key width) holds = window_end s part key width holds before
end_held s part before (op.Crossing key limit) holds = refl
end_held s part before (op.Join key width n column compare limit) holds = refl

end_plain : (s : Stage) (part : ℕ) (before : List Row) (spec : OpSpec) → adds_up spec ≡ false
    → end_answer spec (items_of (rows_at s part before)) ≡ rows_at s part (end_answer spec (items_of before))
end_plain s part before (op.Keep column compare limit) plain = refl
end_plain s part before (op.Total key) plain = refl
end_plain s part before (op.Last key n) plain = refl
end_plain s part before (op.Window key width) plain = absurd (false≢true (sym plain))
end_plain s part before (op.Crossing key limit) plain = refl
end_plain s part before (op.Join key width n column compare limit) plain = refl

pub ends_together : EndsStayTogether
ends_together s part before limits together below = elim (cases_Bool (adds_up s.op)) [
  | inr plain ↦ end_plain s part before s.op plain
  | inl adds ↦ elim (cases_Bool (nat_lt 1 s.parts)) [
    | inr one ↦ end_one s part before (let some : 1 ≤ s.parts = limits.some in grind (arith, nat_tests, one, some)) below
    | inl several ↦ elim (cases_Bool (key_holds (key_in s.op) s.by)) [
      | inl holds ↦ end_held s part before s.op holds
      | inr parted ↦ absurd (false≢true (sym together ∙ rw (adds, several, parted) refl))
    ]
  ]
]
