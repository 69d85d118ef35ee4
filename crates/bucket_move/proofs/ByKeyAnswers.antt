-- An operator that is by key answers a row from the rows that go to its partition, or from those of its bucket, as it does from all rows.
use Rattle.std.proofs.Common.{ℕ, ◌≡◌, Bool, true, false, cond, List, [], ◌∷◌, ◌++◌, refl, sym, ap, ◌∙◌, pos}
use Rattle.std.specs.Prelude.{unsigned_abs, ◌==◌}
use Rattle.std.specs.Int.{int_rem_euclid}
use Rattle.std.specs.List.{filter}
use Rattle.std.proofs.lemmas.Bool.{eq-eqb, false≢true}
use Rattle.tuple_edge.specs.Row.{column_of, route_of}
use Rattle.tuple_edge.specs.declared.row.Column.{Column}
use Rattle.tuple_edge.specs.declared.row.Column.TheVariants as column
use Rattle.tuple_edge.specs.declared.row.Key.{Key}
use Rattle.tuple_edge.specs.declared.row.Row.{Row}
use Rattle.op_spec.specs.Keys.{is_key, key_of}
use Rattle.op_spec.specs.declared.spec.By.{By}
use Rattle.op_spec.specs.declared.spec.By.TheVariants as by
use Rattle.op_spec.specs.declared.spec.OpSpec.{OpSpec}
use Rattle.op_spec.specs.declared.spec.OpSpec.TheVariants as op
use Rattle.stream_ops.specs.Answers.{crossing_answer, row_answer}
use Rattle.stream_ops.specs.Rows.{rows_of, rows_with}
use Rattle.stream_ops.specs.Sums.{sums_of, sums_row}
use Rattle.stream_ops.proofs.Keyed.{same_key}
use Rattle.bucket_move.specs.ByKey.{holds_column, is_keyed}
use Rattle.bucket_move.specs.Limits.{buckets}
use Rattle.bucket_move.specs.Rows.{bucket_of, items_of, rows_in}

-- rows of one key agree in a column that the key holds
same_column : (key : By) (c : Column) (x r : Row) → holds_column key c ≡ true → key_of key x ≡ key_of key r → column_of c x ≡ column_of c r
same_column by.Account column.Account x r holds same = ap (λ (k : Key). k.account) same
same_column by.Account column.Symbol x r holds same = absurd (false≢true holds)
same_column by.Account column.Time x r holds same = absurd (false≢true holds)
same_column by.Account column.Qty x r holds same = absurd (false≢true holds)
same_column by.Account column.Value x r holds same = absurd (false≢true holds)
same_column by.Symbol column.Account x r holds same = absurd (false≢true holds)
same_column by.Symbol column.Symbol x r holds same = ap (λ (k : Key). k.symbol) same
same_column by.Symbol column.Time x r holds same = absurd (false≢true holds)
same_column by.Symbol column.Qty x r holds same = absurd (false≢true holds)
same_column by.Symbol column.Value x r holds same = absurd (false≢true holds)
same_column by.Both column.Account x r holds same = ap (λ (k : Key). k.account) same
same_column by.Both column.Symbol x r holds same = ap (λ (k : Key). k.symbol) same
same_column by.Both column.Time x r holds same = absurd (false≢true holds)
same_column by.Both column.Qty x r holds same = absurd (false≢true holds)
same_column by.Both column.Value x r holds same = absurd (false≢true holds)

-- and so they go to one partition, or to one bucket, whatever their number
same_part : (key : By) (c : Column) (parts : ℕ) (x r : Row) → holds_column key c ≡ true → is_key (key_of key x) (key_of key r) ≡ true → route_of x c parts ≡ route_of r c parts
same_part key c parts x r holds same = ap (λ z. unsigned_abs (int_rem_euclid z (pos parts))) (same_column key c x r holds (same_key (key_of key x) (key_of key r) same))

pub same_bucket : (key : By) (c : Column) (x r : Row) → holds_column key c ≡ true → is_key (key_of key x) (key_of key r) ≡ true → bucket_of c x ≡ bucket_of c r
same_bucket key c x r holds same = same_part key c buckets x r holds same

-- a test that implies another passes the same rows of those that pass the other
filter_within : (p q : Row → Bool) (rows : List Row) → ((x : Row) → p x ≡ true → q x ≡ true) → filter p (filter q rows) ≡ filter p rows
filter_within p q [] within = refl
filter_within p q (x ∷ rows) within = by_tests (q x) (p x) refl refl (filter_within p q rows within)
  where
    by_tests : (t u : Bool) → q x ≡ t → p x ≡ u → filter p (filter q rows) ≡ filter p rows → filter p (cond t (x ∷ filter q rows) (filter q rows)) ≡ cond u (x ∷ filter p rows) (filter p rows)
    by_tests true true inside here later = rw here (ap (λ rest. x ∷ rest) later)
    by_tests true false inside here later = rw here later
    by_tests false true inside here later = absurd (false≢true (sym inside ∙ within x here))
    by_tests false false inside here later = later

pub rows_of-items_of : (rows : List Row) → rows_of (items_of rows) ≡ rows
rows_of-items_of [] = refl
rows_of-items_of (r ∷ rows) = ap (λ rest. r ∷ rest) (rows_of-items_of rows)

-- the rows of a row's key are those among the rows that go to its part
pub rows_with-part : (key : By) (c : Column) (parts : ℕ) (rows : List Row) (r : Row) → holds_column key c ≡ true
    → rows_with key (items_of (filter (λ x. route_of x c parts == route_of r c parts) rows)) (key_of key r) ≡ rows_with key (items_of rows) (key_of key r)
rows_with-part key c parts rows r holds =
    let test : Row → Bool = λ x. is_key (key_of key x) (key_of key r) in
    let here : Row → Bool = λ x. route_of x c parts == route_of r c parts in
    ap (filter test) (rows_of-items_of (filter here rows))
    ∙ filter_within test here rows (λ x same. eq-eqb (route_of x c parts) (route_of r c parts) (same_part key c parts x r holds same))
    ∙ ap (filter test) (sym (rows_of-items_of rows))

-- An operator that is by key answers a row from those rows as from all.
pub row_answer-part : (c : Column) (parts : ℕ) (spec : OpSpec) (rows : List Row) (r : Row) → is_keyed c spec ≡ true
    → row_answer spec (items_of (filter (λ x. route_of x c parts == route_of r c parts) rows)) r ≡ row_answer spec (items_of rows) r
row_answer-part c parts (op.Keep of compare limit) rows r keyed = refl
row_answer-part c parts (op.Total key) rows r keyed =
    ap (λ (of_key : List Row). sums_row r.time (key_of key r) (sums_of (of_key ++ r ∷ [])) ∷ []) (rows_with-part key c parts rows r keyed)
row_answer-part c parts (op.Last key n) rows r keyed = rw (rows_with-part key c parts rows r keyed) refl
row_answer-part c parts (op.Window key width) rows r keyed = absurd (false≢true keyed)
row_answer-part c parts (op.Crossing key limit) rows r keyed =
    ap (λ (of_key : List Row). crossing_answer limit (key_of key r) of_key r) (rows_with-part key c parts rows r keyed)
row_answer-part c parts (op.Join key width n of compare limit) rows r keyed = absurd (false≢true keyed)

-- the same of the rows of its bucket
pub row_answer-bucket : (c : Column) (spec : OpSpec) (rows : List Row) (r : Row) → is_keyed c spec ≡ true
    → row_answer spec (items_of (rows_in c (bucket_of c r) rows)) r ≡ row_answer spec (items_of rows) r
row_answer-bucket c spec rows r keyed = row_answer-part c buckets spec rows r keyed
