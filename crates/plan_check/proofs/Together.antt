-- A stage that splits no keys answers each row as one partition would.
use Rattle.std.proofs.Common.{ℕ, zero, suc, ◌≡◌, ◌≤◌, ◌-◌, Bool, true, false, List, [], ◌∷◌, ◌++◌, length, drop, length-append, refl, sym, ap, ◌∙◌, arith, inl, inr}
use Rattle.std.proofs.Math.Seq.{drop-append_seam, drop-length}
use Rattle.std.specs.Prelude.{◌==◌, Option, Some, None, nat_lt}
use Rattle.std.specs.List.{filter}
use Rattle.std.proofs.lemmas.Bool.{cases_Bool, false≢true, eq-eqb}
use Rattle.std.proofs.lemmas.Bool.Decides.{nat_tests}
use Rattle.tuple_edge.specs.Row.{route_of}
use Rattle.tuple_edge.specs.declared.row.Row.{Row}
use Rattle.op_spec.specs.Keys.{is_key, key_of}
use Rattle.op_spec.specs.declared.spec.By.{By}
use Rattle.op_spec.specs.declared.spec.OpSpec.{OpSpec}
use Rattle.op_spec.specs.declared.spec.OpSpec.TheVariants as op
use Rattle.stream_ops.specs.Answers.{crossing_answer, row_answer, window_answer}
use Rattle.stream_ops.specs.Joins.{is_left, join_answer}
use Rattle.stream_ops.specs.Rows.{rows_with}
use Rattle.stream_ops.specs.Sums.{sums_of, sums_row}
use Rattle.plan_reader.specs.declared.stage.Stage.{Stage}
use Rattle.bucket_move.specs.Rows.{items_of}
use Rattle.bucket_move.proofs.ByKeyAnswers.{rows_of-items_of, rows_with-part}
use Rattle.plan_check.specs.Laws.{AnswersAsOne, KeysStayTogether, are_of_key, rows_beside, rows_of_key}
use Rattle.plan_check.proofs.Passing.{all_pass, filter_within, to_one}
use Rattle.plan_check.specs.Sums.{adds_up, key_holds, key_in}

-- the last rows of some
abbrev keep_last : ℕ → List Row → List Row
keep_last n rows = drop (length rows - n) rows

-- ---- rows of one key

-- the rows of a key are all there among those of the key alone
rows_with-key : (key : By) (rows : List Row) (r : Row)
    → rows_with key (items_of (filter (λ x. is_key (key_of key x) (key_of key r)) rows)) (key_of key r) ≡ rows_with key (items_of rows) (key_of key r)
rows_with-key key rows r =
    let test : Row → Bool = λ x. is_key (key_of key x) (key_of key r) in
    ap (filter test) (rows_of-items_of (filter test rows)) ∙ filter_within test test rows (λ x passes. passes) ∙ ap (filter test) (sym (rows_of-items_of rows))

-- An operator looks at the rows of its key alone.
pub row_answer-key : (spec : OpSpec) (key : By) (xs ys : List Row) (r : Row) → key_in spec ≡ Some key
    → rows_with key (items_of xs) (key_of key r) ≡ rows_with key (items_of ys) (key_of key r) → row_answer spec (items_of xs) r ≡ row_answer spec (items_of ys) r
row_answer-key (op.Keep column compare limit) key xs ys r is same = refl
row_answer-key (op.Total of_key) key xs ys r is same =
    let k : of_key ≡ key = cc is in
    rw k (ap (λ (rows : List Row). sums_row r.time (key_of key r) (sums_of (rows ++ r ∷ [])) ∷ []) same)
row_answer-key (op.Last of_key n) key xs ys r is same =
    let k : of_key ≡ key = cc is in
    rw k (ap (λ (rows : List Row). sums_row r.time (key_of key r) (sums_of (keep_last n (rows ++ r ∷ []))) ∷ []) same)
row_answer-key (op.Window of_key width) key xs ys r is same =
    let k : of_key ≡ key = cc is in
    rw k (ap (λ (rows : List Row). window_answer width (key_of key r) rows r) same)
row_answer-key (op.Crossing of_key limit) key xs ys r is same =
    let k : of_key ≡ key = cc is in
    rw k (ap (λ (rows : List Row). crossing_answer limit (key_of key r) rows r) same)
row_answer-key (op.Join of_key width n column compare limit) key xs ys r is same =
    let k : of_key ≡ key = cc is in
    rw k (ap (λ (rows : List Row). join_answer width n (is_left column compare limit) (key_of key r) rows r) same)

-- ---- the rows of a partition

beside_one : (s : Stage) (r : Row) (rows : List Row) → s.parts ≡ 1 → rows_beside s r rows ≡ rows
beside_one s r rows one =
    all_pass (λ x. route_of x s.by s.parts == route_of r s.by s.parts) rows
    (λ x. eq-eqb (route_of x s.by s.parts) (route_of r s.by s.parts) (to_one s x one ∙ sym (to_one s r one)))

-- the last row alone is the same after any rows
last_one : (n : ℕ) (xs ys : List Row) (r : Row) → n ≤ 1 → keep_last n (xs ++ r ∷ []) ≡ keep_last n (ys ++ r ∷ [])
last_one n xs ys r few = last_after n xs r few ∙ sym (last_after n ys r few)
  where
    last_after : (n : ℕ) (xs : List Row) (r : Row) → n ≤ 1 → keep_last n (xs ++ r ∷ []) ≡ keep_last n (r ∷ [])
    last_after zero xs r few =
        let whole : length (xs ++ r ∷ []) - zero ≡ length (xs ++ r ∷ []) = omega arith in
        ap (λ (n : ℕ). drop n (xs ++ r ∷ [])) whole ∙ drop-length (xs ++ r ∷ [])
    last_after (suc zero) xs r few =
        let front : length (xs ++ r ∷ []) - suc zero ≡ length xs = omega (arith, length-append xs (r ∷ [])) in
        ap (λ (n : ℕ). drop n (xs ++ r ∷ [])) front ∙ drop-append_seam xs (r ∷ [])
    last_after (suc (suc n)) xs r few = absurd (omega arith)

-- an operator that adds up nothing answers a row with no look at others
plain_answer : (spec : OpSpec) (xs ys : List Row) (r : Row) → adds_up spec ≡ false → row_answer spec (items_of xs) r ≡ row_answer spec (items_of ys) r
plain_answer (op.Keep column compare limit) xs ys r plain = refl
plain_answer (op.Total key) xs ys r plain = absurd (false≢true (sym plain))
plain_answer (op.Last key n) xs ys r plain =
    let few : n ≤ 1 = grind (arith, nat_tests, plain) in
    ap (λ (rows : List Row). sums_row r.time (key_of key r) (sums_of rows) ∷ []) (last_one n (rows_with key (items_of xs) (key_of key r)) (rows_with key (items_of ys) (key_of key r)) r few)
plain_answer (op.Window key width) xs ys r plain = absurd (false≢true (sym plain))
plain_answer (op.Crossing key limit) xs ys r plain = absurd (false≢true (sym plain))
plain_answer (op.Join key width n column compare limit) xs ys r plain = absurd (false≢true (sym plain))

-- ---- the law

-- where the rows of a row's key are all there in its partition, it is answered as in one
answers_in : (s : Stage) (before : List Row) (r : Row) (key : By) → key_in s.op ≡ Some key
    → rows_with key (items_of (rows_beside s r before)) (key_of key r) ≡ rows_with key (items_of before) (key_of key r) → AnswersAsOne s before r
answers_in s before r key is all =
    let alone : rows_of_key s r before ≡ filter (λ x. is_key (key_of key x) (key_of key r)) before = ap (λ (k : Option By). filter (λ x. are_of_key k x r) before) is in
    let of_key : rows_with key (items_of (rows_of_key s r before)) (key_of key r) ≡ rows_with key (items_of before) (key_of key r) =
    ap (λ (rows : List Row). rows_with key (items_of rows) (key_of key r)) alone ∙ rows_with-key key before r in
    record {
      of_key = row_answer-key s.op key (rows_beside s r before) (rows_of_key s r before) r is (all ∙ sym of_key);
      of_all = row_answer-key s.op key (rows_beside s r before) before r is all;
    }

answers_plain : (s : Stage) (before : List Row) (r : Row) → adds_up s.op ≡ false → AnswersAsOne s before r
answers_plain s before r plain = record {
  of_key = plain_answer s.op (rows_beside s r before) (rows_of_key s r before) r plain;
  of_all = plain_answer s.op (rows_beside s r before) before r plain;
}

-- an operator without a key adds up nothing
keyless : (spec : OpSpec) → key_in spec ≡ None → adds_up spec ≡ false
keyless (op.Keep column compare limit) none = refl
keyless (op.Total key) none = cc
keyless (op.Last key n) none = cc
keyless (op.Window key width) none = cc
keyless (op.Crossing key limit) none = cc
keyless (op.Join key width n column compare limit) none = cc

-- in one partition all rows of a key are there
answers_one : (s : Stage) (before : List Row) (r : Row) → s.parts ≡ 1 → (k : Option By) → key_in s.op ≡ k → AnswersAsOne s before r
answers_one s before r one None is = answers_plain s before r (keyless s.op is)
answers_one s before r one (Some key) is = answers_in s before r key is (ap (λ (rows : List Row). rows_with key (items_of rows) (key_of key r)) (beside_one s r before one))

-- and in several, where the key holds the column
answers_held : (s : Stage) (before : List Row) (r : Row) (k : Option By) → key_in s.op ≡ k → key_holds k s.by ≡ true → AnswersAsOne s before r
answers_held s before r None is holds = absurd (false≢true holds)
answers_held s before r (Some key) is holds = answers_in s before r key is (rows_with-part key s.by s.parts before r holds)

pub keys_together : KeysStayTogether
keys_together s before r limits together = elim (cases_Bool (adds_up s.op)) [
  | inr plain ↦ answers_plain s before r plain
  | inl adds ↦ elim (cases_Bool (nat_lt 1 s.parts)) [
    | inr one ↦
        let some : 1 ≤ s.parts = limits.some in
        answers_one s before r (grind (arith, nat_tests, one, some)) (key_in s.op) refl
    | inl several ↦ elim (cases_Bool (key_holds (key_in s.op) s.by)) [
      | inl holds ↦ answers_held s before r (key_in s.op) refl holds
      | inr parted ↦ absurd (false≢true (sym together ∙ rw (adds, several, parted) refl))
    ]
  ]
]
