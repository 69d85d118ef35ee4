-- How many keys rows have: those of a partition's rows are the keys of its buckets' rows, bucket by bucket.
use Rattle.std.proofs.Common.{ℕ, ◌≡◌, ◌≤◌, ◌+◌, suc, Bool, true, false, cond, List, [], ◌∷◌, ◌++◌, length, fold, refl, sym, ap, subst, ◌∙◌, append_assoc, arith}
use Rattle.std.specs.Prelude.{◌||◌}
use Rattle.std.specs.List.{filter}
use Rattle.std.specs.declared.cmp.Ordering.{Ordering}
use Rattle.std.specs.declared.cmp.Ordering.TheVariants.{Less, Equal, Greater}
use Rattle.std.proofs.lemmas.Bool.{false≢true}
use Rattle.std.proofs.lemmas.List.{append-nil}
use Rattle.std.proofs.lemmas.List.Elements.{filter-append}
use Rattle.std.proofs.lemmas.List.Sums.{fold-append}
use Rattle.tuple_edge.specs.declared.row.Column.{Column}
use Rattle.tuple_edge.specs.declared.row.Key.{Key}
use Rattle.tuple_edge.specs.declared.row.Row.{Row}
use Rattle.op_spec.specs.Keys.{is_key, key_cmp, key_of}
use Rattle.op_spec.specs.declared.spec.By.{By}
use Rattle.op_spec.specs.declared.spec.OpSpec.{OpSpec}
use Rattle.op_spec.specs.declared.spec.OpSpec.TheVariants as op
use Rattle.stream_ops.specs.Kept.{keys_after}
use Rattle.stream_ops.specs.Rows.{keys_among, rows_of, with_key}
use Rattle.stream_ops.proofs.Keyed.{is_key-symm, self_key}
use Rattle.stream_ops.proofs.Known.{keys-known, length-with_key}
use Rattle.bucket_move.specs.ByKey.{is_keyed}
use Rattle.bucket_move.specs.Rows.{bucket_of, items_of}
use Rattle.bucket_move.proofs.ByKeyAnswers.{rows_of-items_of, same_bucket}

-- ---- keys one by one

-- none of these keys is this one
abbrev AreOthers : Key → List Key → Type 0
AreOthers k [] = Unit {0}
AreOthers k (q ∷ keys) = (is_key k q ≡ false) × AreOthers k keys

others-with_by : (k q e : Key) (keys : List Key) (o : Ordering) → key_cmp q e ≡ o → is_key k q ≡ false → AreOthers k (e ∷ keys) → AreOthers k (with_key q keys) → AreOthers k (with_key q (e ∷ keys))
others-with_by k q e keys Less is apart others later = rw is (apart, others)
others-with_by k q e keys Equal is apart others later = rw is others
others-with_by k q e keys Greater is apart others later = rw is (others.0, later)

others-with : (k q : Key) (keys : List Key) → is_key k q ≡ false → AreOthers k keys → AreOthers k (with_key q keys)
others-with k q [] apart others = (apart, tt)
others-with k q (e ∷ keys) apart others = others-with_by k q e keys (key_cmp q e) refl apart others (others-with k q keys apart others.1)

new_key_by : (k q : Key) (keys : List Key) (o : Ordering) → key_cmp k q ≡ o → is_key k q ≡ false → length (with_key k keys) ≡ suc (length keys) → length (with_key k (q ∷ keys)) ≡ suc (length (q ∷ keys))
new_key_by k q keys Less is apart later = rw is refl
new_key_by k q keys Equal is apart later = let same : true ≡ false = rw is at apart in cc
new_key_by k q keys Greater is apart later = rw is (ap suc later)

-- a key that is none of them is one more
new_key : (k : Key) (keys : List Key) → AreOthers k keys → length (with_key k keys) ≡ suc (length keys)
new_key k [] others = refl
new_key k (q ∷ keys) others = new_key_by k q keys (key_cmp k q) refl others.0 (new_key k keys others.1)

pub keys_among-push : (by : By) (rows : List Row) (r : Row) → keys_among by (rows ++ r ∷ []) ≡ with_key (key_of by r) (keys_among by rows)
keys_among-push by rows r = fold-append (λ keys x. with_key (key_of by x) keys) [] rows (r ∷ [])

others_through_by : (by : By) (k : Key) (r : Row) (rows : List Row) (keys : List Key) (t : Bool) → is_key (key_of by r) k ≡ t → filter (λ x. is_key (key_of by x) k) (r ∷ rows) ≡ [] → AreOthers k keys
    → (filter (λ x. is_key (key_of by x) k) rows ≡ [] → AreOthers k (with_key (key_of by r) keys) → AreOthers k (fold (λ keys x. with_key (key_of by x) keys) (with_key (key_of by r) keys) rows))
    → AreOthers k (fold (λ keys x. with_key (key_of by x) keys) (with_key (key_of by r) keys) rows)
others_through_by by k r rows keys true is none others later = let found : r ∷ filter (λ x. is_key (key_of by x) k) rows ≡ [] = rw is at none in cc
others_through_by by k r rows keys false is none others later = later (rw is at none) (others-with k (key_of by r) keys (is_key-symm k (key_of by r) ∙ is) others)

-- where no row has a key, none of the rows' keys is it
others_through : (by : By) (k : Key) (rows : List Row) (keys : List Key) → filter (λ r. is_key (key_of by r) k) rows ≡ [] → AreOthers k keys → AreOthers k (fold (λ keys x. with_key (key_of by x) keys) keys rows)
others_through by k [] keys none others = others
others_through by k (r ∷ rows) keys none others =
    others_through_by by k r rows keys (is_key (key_of by r) k) refl none others (λ none_later others_later. others_through by k rows (with_key (key_of by r) keys) none_later others_later)

abbrev pub count_of : By → List Row → ℕ
count_of by rows = length (keys_among by rows)

-- one more row is one more key where no row had its key
abbrev pub added : List Row → ℕ
added [] = 1
added (x ∷ had) = 0

pub count-push_by : (by : By) (rows : List Row) (r : Row) (had : List Row) → filter (λ x. is_key (key_of by x) (key_of by r)) rows ≡ had → count_of by (rows ++ r ∷ []) ≡ count_of by rows + added had
count-push_by by rows r [] none =
    let more : length (with_key (key_of by r) (keys_among by rows)) ≡ suc (count_of by rows) = new_key (key_of by r) (keys_among by rows) (others_through by (key_of by r) rows [] none tt) in
    ap length (keys_among-push by rows r) ∙ omega arith
count-push_by by rows r (x ∷ had) found = ap length (keys_among-push by rows r ∙ keys-known by (key_of by r) rows x had found) ∙ omega arith

-- ---- two kinds of rows that share no key

-- of rows of either kind with a key that only the one kind has, all are of that kind
filter_front : (p q t : Row → Bool) (rows : List Row) → ((x : Row) → t x ≡ true → q x ≡ false) → filter t (filter (λ x. p x || q x) rows) ≡ filter t (filter p rows)
filter_front p q t [] apart = refl
filter_front p q t (x ∷ rows) apart = by_tests (p x) (q x) (t x) refl refl refl (filter_front p q t rows apart)
  where
    by_tests : (a b c : Bool) → p x ≡ a → q x ≡ b → t x ≡ c → filter t (filter (λ y. p y || q y) rows) ≡ filter t (filter p rows)
        → filter t (cond (a || b) (x ∷ filter (λ y. p y || q y) rows) (filter (λ y. p y || q y) rows)) ≡ filter t (cond a (x ∷ filter p rows) (filter p rows))
    by_tests true b true p_is q_is t_is later = rw t_is (ap (λ rest. x ∷ rest) later)
    by_tests true b false p_is q_is t_is later = rw t_is later
    by_tests false true true p_is q_is t_is later = let no : true ≡ false = sym q_is ∙ apart x t_is in cc
    by_tests false true false p_is q_is t_is later = rw t_is later
    by_tests false false c p_is q_is t_is later = later

filter_back : (p q t : Row → Bool) (rows : List Row) → ((x : Row) → t x ≡ true → p x ≡ false) → filter t (filter (λ x. p x || q x) rows) ≡ filter t (filter q rows)
filter_back p q t [] apart = refl
filter_back p q t (x ∷ rows) apart = by_tests (p x) (q x) (t x) refl refl refl (filter_back p q t rows apart)
  where
    by_tests : (a b c : Bool) → p x ≡ a → q x ≡ b → t x ≡ c → filter t (filter (λ y. p y || q y) rows) ≡ filter t (filter q rows)
        → filter t (cond (a || b) (x ∷ filter (λ y. p y || q y) rows) (filter (λ y. p y || q y) rows)) ≡ filter t (cond b (x ∷ filter q rows) (filter q rows))
    by_tests true b true p_is q_is t_is later = let no : true ≡ false = sym p_is ∙ apart x t_is in cc
    by_tests true true false p_is q_is t_is later = rw t_is later
    by_tests true false false p_is q_is t_is later = rw t_is later
    by_tests false true true p_is q_is t_is later = rw t_is (ap (λ rest. x ∷ rest) later)
    by_tests false true false p_is q_is t_is later = rw t_is later
    by_tests false false c p_is q_is t_is later = later

count_kind : (by : By) (t : Row → Bool) (rows : List Row) (r : Row) (b : Bool) → t r ≡ b
    → count_of by (filter t (rows ++ r ∷ [])) ≡ count_of by (filter t rows) + cond b (added (filter (λ x. is_key (key_of by x) (key_of by r)) (filter t rows))) 0
count_kind by t rows r true is =
    ap (count_of by) (filter-append t rows (r ∷ []) ∙ ap (λ (c : Bool). filter t rows ++ cond c (r ∷ []) []) is)
    ∙ count-push_by by (filter t rows) r (filter (λ x. is_key (key_of by x) (key_of by r)) (filter t rows)) refl
count_kind by t rows r false is =
    ap (count_of by) (filter-append t rows (r ∷ []) ∙ ap (λ (c : Bool). filter t rows ++ cond c (r ∷ []) []) is ∙ append-nil (filter t rows)) ∙ omega arith

module _ (by : By) (p q : Row → Bool) (apart : (x y : Row) → p x ≡ true → q y ≡ true → is_key (key_of by x) (key_of by y) ≡ false) where
  abbrev either : Row → Bool
  either x = p x || q x

  abbrev Splits : List Row → Type 0
  Splits rows = count_of by (filter either rows) ≡ count_of by (filter p rows) + count_of by (filter q rows)

  no_back : (r : Row) → p r ≡ true → (x : Row) (t : Bool) → q x ≡ t → is_key (key_of by x) (key_of by r) ≡ true → q x ≡ false
  no_back r here x true is same = let no : true ≡ false = sym same ∙ is_key-symm (key_of by x) (key_of by r) ∙ apart r x here is in cc
  no_back r here x false is same = is

  no_front : (r : Row) → q r ≡ true → (x : Row) (t : Bool) → p x ≡ t → is_key (key_of by x) (key_of by r) ≡ true → p x ≡ false
  no_front r here x true is same = let no : true ≡ false = sym same ∙ apart x r is here in cc
  no_front r here x false is same = is

  split_by : (rows : List Row) (r : Row) (a b : Bool) → p r ≡ a → q r ≡ b → Splits rows → Splits (rows ++ r ∷ [])
  split_by rows r true true a_is b_is had = let no : true ≡ false = sym (self_key (key_of by r)) ∙ apart r r a_is b_is in cc
  split_by rows r true false a_is b_is had =
      let same : filter (λ x. is_key (key_of by x) (key_of by r)) (filter either rows) ≡ filter (λ x. is_key (key_of by x) (key_of by r)) (filter p rows) =
      filter_front p q (λ x. is_key (key_of by x) (key_of by r)) rows (λ x here. no_back r a_is x (q x) refl here) in
      let all = count_kind by either rows r true (ap (λ (c : Bool). c || q r) a_is) in
      let front = count_kind by p rows r true a_is in
      let back = count_kind by q rows r false b_is in
      let one = ap (λ (had : List Row). added had) same in
      omega (arith, all, front, back, one, had)
  split_by rows r false true a_is b_is had =
      let same : filter (λ x. is_key (key_of by x) (key_of by r)) (filter either rows) ≡ filter (λ x. is_key (key_of by x) (key_of by r)) (filter q rows) =
      filter_back p q (λ x. is_key (key_of by x) (key_of by r)) rows (λ x here. no_front r b_is x (p x) refl here) in
      let all = count_kind by either rows r true (ap (λ (c : Bool). c || q r) a_is ∙ b_is) in
      let front = count_kind by p rows r false a_is in
      let back = count_kind by q rows r true b_is in
      let one = ap (λ (had : List Row). added had) same in
      omega (arith, all, front, back, one, had)
  split_by rows r false false a_is b_is had =
      let all = count_kind by either rows r false (ap (λ (c : Bool). c || q r) a_is ∙ b_is) in
      let front = count_kind by p rows r false a_is in
      let back = count_kind by q rows r false b_is in
      omega (arith, all, front, back, had)

  split_through : (before rows : List Row) → Splits before → Splits (before ++ rows)
  split_through before [] had = subst Splits (sym (append-nil before)) had
  split_through before (r ∷ rows) had =
      subst Splits (append_assoc before (r ∷ []) rows) (split_through (before ++ r ∷ []) rows (split_by before r (p r) (q r) refl refl had))

  pub count_split : (rows : List Row) → Splits rows
  count_split rows = split_through [] rows refl

-- ---- the keys for which an operator keeps something

abbrev pub key_count : OpSpec → List Row → ℕ
key_count spec rows = length (keys_after spec (items_of rows))

plain : (by : By) (rows : List Row) → length (keys_among by (rows_of (items_of rows))) ≡ count_of by rows
plain by rows = ap (count_of by) (rows_of-items_of rows)

module _ (c : Column) (p q : Row → Bool) (apart : (x y : Row) → p x ≡ true → q y ≡ true → bucket_of c x ≡ bucket_of c y → ⊥) where
  other_keys : (by : By) → is_keyed c (op.Total by) ≡ true → (x y : Row) (t : Bool) → is_key (key_of by x) (key_of by y) ≡ t → p x ≡ true → q y ≡ true → is_key (key_of by x) (key_of by y) ≡ false
  other_keys by keyed x y true is here there = absurd (apart x y here there (same_bucket by c x y keyed is))
  other_keys by keyed x y false is here there = is

  split : (by : By) (rows : List Row) → is_keyed c (op.Total by) ≡ true
      → length (keys_among by (rows_of (items_of (filter (λ x. p x || q x) rows)))) ≡ length (keys_among by (rows_of (items_of (filter p rows)))) + length (keys_among by (rows_of (items_of (filter q rows))))
  split by rows keyed =
      let all = plain by (filter (λ x. p x || q x) rows) in
      let front = plain by (filter p rows) in
      let back = plain by (filter q rows) in
      let both = count_split by p q (λ x y here there. other_keys by keyed x y (is_key (key_of by x) (key_of by y)) refl here there) rows in
      omega (arith, all, front, back, both)

  pub keys_split : (spec : OpSpec) (rows : List Row) → is_keyed c spec ≡ true → key_count spec (filter (λ x. p x || q x) rows) ≡ key_count spec (filter p rows) + key_count spec (filter q rows)
  keys_split (op.Keep column compare limit) rows keyed = refl
  keys_split (op.Total by) rows keyed = split by rows keyed
  keys_split (op.Last by n) rows keyed = split by rows keyed
  keys_split (op.Window by width) rows keyed = absurd (false≢true keyed)
  keys_split (op.Crossing by limit) rows keyed = split by rows keyed
  keys_split (op.Join by width n column compare limit) rows keyed = absurd (false≢true keyed)

-- no more keys than rows
count_few : (by : By) (rows : List Row) (keys : List Key) → length (fold (λ keys x. with_key (key_of by x) keys) keys rows) ≤ length keys + length rows
count_few by [] keys = omega arith
count_few by (r ∷ rows) keys =
    let later = count_few by rows (with_key (key_of by r) keys) in
    let one = length-with_key (key_of by r) keys in
    omega (arith, later, one)

few : (by : By) (rows : List Row) → length (keys_among by (rows_of (items_of rows))) ≤ length rows
few by rows = let same = plain by rows in let count = count_few by rows [] in omega (arith, same, count)

pub keys_few : (c : Column) (spec : OpSpec) (rows : List Row) → is_keyed c spec ≡ true → key_count spec rows ≤ length rows
keys_few c (op.Keep column compare limit) rows keyed = omega arith
keys_few c (op.Total by) rows keyed = few by rows
keys_few c (op.Last by n) rows keyed = few by rows
keys_few c (op.Window by width) rows keyed = absurd (false≢true keyed)
keys_few c (op.Crossing by limit) rows keyed = few by rows
keys_few c (op.Join by width n column compare limit) rows keyed = absurd (false≢true keyed)
