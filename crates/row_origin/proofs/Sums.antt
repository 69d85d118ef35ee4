-- The rows that a stage passes on tell the sums of the rows that count into them.
use Rattle.std.proofs.Common.{ℕ, ℤ, zero, suc, ◌≡◌, ◌≤◌, ◌-◌, ◌+◌, Bool, true, false, cond, List, [], ◌∷◌, ◌++◌, length, map, drop, int_lt, refl, sym, ap, ◌∙◌, arith, length-append}
use Rattle.std.specs.Prelude.{◌==◌}
use Rattle.std.proofs.lemmas.Bool.{false≢true}
use Rattle.std.proofs.lemmas.List.{append-nil, drop-append-le, drop-map, length-map, map-append}
use Rattle.circular_buffer.specs.Buffer.{keep_last}
use Rattle.tuple_edge.specs.Row.{route_of}
use Rattle.tuple_edge.specs.declared.item.Item.{Item}
use Rattle.tuple_edge.specs.declared.item.Item.TheVariants as item
use Rattle.tuple_edge.specs.declared.row.Key.{Key}
use Rattle.tuple_edge.specs.declared.row.Row.{Row}
use Rattle.op_spec.specs.Keys.{key_of}
use Rattle.op_spec.specs.Spec.{IsSpec}
use Rattle.op_spec.specs.declared.spec.By.{By}
use Rattle.op_spec.specs.declared.spec.OpSpec.{OpSpec}
use Rattle.op_spec.specs.declared.spec.OpSpec.TheVariants as op
use Rattle.stream_ops.specs.Answers.{answers, end_answer, row_answer, window_answer, window_row}
use Rattle.stream_ops.specs.Rows.{keys_in, rows_with}
use Rattle.stream_ops.specs.Sums.{amounts, crosses, sums_of, sums_row}
use Rattle.stream_ops.specs.Windows.{level, rows_at}
use Rattle.stream_ops.specs.declared.sums.Sums.{Sums}
use Rattle.plan_reader.specs.declared.stage.Stage.{Stage}
use Rattle.evaluation.specs.StageRows.{alike, early_replies, late_replies, part_replies, row_replies, rows_to}
use Rattle.row_cause.specs.Causes.{Cause, end_causes, items_in, of_its_key, of_key, open_rows, row_causes, rows_in, said_at_end, said_by, window_causes}
use Rattle.row_cause.specs.declared.placed.Placed.{Placed}
use Rattle.row_cause.proofs.Filters.{filter_mapped, with_key}
use Rattle.row_cause.proofs.Windows.{open_placed}
use Rattle.row_origin.specs.Laws.{PassedRowsTellWhatCounts, sums_up, told_by}
use Rattle.row_origin.specs.Stages.{early_causes, late_causes, part_causes, placed_from, placed_to}
use Rattle.row_origin.proofs.Placing.{rows_in-placed}

-- ---- an operator

rows_one_more : (placed : List Placed) (r : Placed) → rows_in (placed ++ r ∷ []) ≡ rows_in placed ++ r.row ∷ []
rows_one_more placed r = map-append (λ (x : Placed). x.row) placed (r ∷ [])

-- the last so many of some with one more
last_counted : {X : Type 0} (m : ℕ) (xs : List X) (x : X) → keep_last (suc m) (xs ++ x ∷ []) ≡ keep_last m xs ++ x ∷ []
last_counted m xs x =
    let cut : length (xs ++ x ∷ []) - suc m ≡ length xs - m = omega (arith, length-append xs (x ∷ [])) in
    ap (λ n. drop n (xs ++ x ∷ [])) cut ∙ drop-append-le (length xs - m) xs (x ∷ []) (omega arith)

last_in : (n : ℕ) (placed : List Placed) → rows_in (keep_last n placed) ≡ keep_last n (rows_in placed)
last_in n placed =
    let size : length (rows_in placed) ≡ length placed = length-map placed (λ (x : Placed). x.row) in
    sym (drop-map (λ (x : Placed). x.row) (length placed - n) placed) ∙ ap (λ m. drop (m - n) (rows_in placed)) (sym size)

last_sums : (by : By) (n : ℕ) (B : List Placed) (r : Placed) → 1 ≤ n
    → sums_of (keep_last n (rows_with by (items_in B) (key_of by r.row) ++ r.row ∷ [])) ≡ sums_of (rows_in (keep_last (n - 1) (of_its_key by r B) ++ r ∷ []))
last_sums by zero B r some = absurd (omega arith)
last_sums by (suc m) B r some =
    let mine = of_its_key by r B in
    let less : m ≡ suc m - 1 = omega arith in
    ap (λ (rows : List Row). sums_of (keep_last (suc m) (rows ++ r.row ∷ []))) (with_key by (key_of by r.row) B)
    ∙ (ap sums_of (last_counted m (rows_in mine) r.row ∙ (ap (λ (rows : List Row). rows ++ r.row ∷ []) (sym (last_in m mine)) ∙ sym (rows_one_more (keep_last m mine) r)))
    ∙ ap (λ (j : ℕ). sums_of (rows_in (keep_last j mine ++ r ∷ []))) less)

window_by : (by : By) (width : ℤ) (k : Key) (r x : Placed) (placed : List Placed) (t : Bool)
    → map amounts (cond t (window_row width k (rows_in (x ∷ placed)) ∷ []) []) ≡ map (told_by (op.Window by width)) (cond t (said_by r (open_rows width (x ∷ placed)) ∷ []) [])
window_by by width k r x placed true = ap (λ (rows : List Row). let s : Sums = sums_of rows in s ∷ []) (sym (open_placed width (x ∷ placed)))
window_by by width k r x placed false = refl

window_from : (by : By) (width : ℤ) (k : Key) (r : Placed) (placed : List Placed) → map amounts (window_answer width k (rows_in placed) r.row) ≡ map (told_by (op.Window by width)) (window_causes width placed r)
window_from by width k r [] = refl
window_from by width k r (x ∷ placed) = window_by by width k r x placed (int_lt (level width (rows_in (x ∷ placed))) (level width (rows_in (x ∷ placed) ++ r.row ∷ [])))

crossing_by : (by : By) (limit : ℤ) (k : Key) (r : Placed) (placed : List Placed) (t : Bool)
    → map amounts (cond t (sums_row r.row.time k (sums_of (rows_in placed ++ r.row ∷ [])) ∷ []) []) ≡ map (told_by (op.Crossing by limit)) (cond t (said_by r placed ∷ []) [])
crossing_by by limit k r placed true = ap (λ (rows : List Row). let s : Sums = sums_of rows in s ∷ []) (sym (rows_one_more placed r))
crossing_by by limit k r placed false = refl

row_sums : (spec : OpSpec) (B : List Placed) (r : Placed) → IsSpec spec → sums_up spec ≡ true → map amounts (row_answer spec (items_in B) r.row) ≡ map (told_by spec) (row_causes spec B r)
row_sums (op.Keep column compare limit) B r limits sums = absurd (false≢true sums)
row_sums (op.Total by) B r limits sums =
    ap (λ (rows : List Row). let s : Sums = sums_of (rows ++ r.row ∷ []) in s ∷ []) (with_key by (key_of by r.row) B)
    ∙ ap (λ (rows : List Row). let s : Sums = sums_of rows in s ∷ []) (sym (rows_one_more (of_its_key by r B) r))
row_sums (op.Last by n) B r limits sums = ap (λ (s : Sums). s ∷ []) (last_sums by n B r limits.0)
row_sums (op.Window by width) B r limits sums =
    ap (λ (rows : List Row). map amounts (window_answer width (key_of by r.row) rows r.row)) (with_key by (key_of by r.row) B) ∙ window_from by width (key_of by r.row) r (of_its_key by r B)
row_sums (op.Crossing by limit) B r limits sums =
    let k = key_of by r.row in
    let mine = of_its_key by r B in
    ap (λ (rows : List Row). map amounts (cond (crosses limit (sums_of rows).value (sums_of (rows ++ r.row ∷ [])).value) (sums_row r.row.time k (sums_of (rows ++ r.row ∷ [])) ∷ []) [])) (with_key by k B)
    ∙ crossing_by by limit k r mine (crosses limit (sums_of (rows_in mine)).value (sums_of (rows_in mine ++ r.row ∷ [])).value)
row_sums (op.Join by width n column compare limit) B r limits sums = absurd (false≢true sums)

windows_sums : (by : By) (width : ℤ) (B : List Placed) (keys : List Key)
    → map amounts (map (λ k. window_row width k (rows_with by (items_in B) k)) keys) ≡ map (told_by (op.Window by width)) (map (λ k. said_at_end (open_rows width (of_key by k B))) keys)
windows_sums by width B [] = refl
windows_sums by width B (k ∷ keys) =
    let here : sums_of (rows_at width (level width (rows_with by (items_in B) k)) (rows_with by (items_in B) k)) ≡ sums_of (rows_in (open_rows width (of_key by k B))) =
    ap (λ (rows : List Row). sums_of (rows_at width (level width rows) rows)) (with_key by k B) ∙ ap sums_of (sym (open_placed width (of_key by k B))) in
    ap (λ (s : Sums). s ∷ map amounts (map (λ k. window_row width k (rows_with by (items_in B) k)) keys)) here
    ∙ ap (λ (rest : List Sums). sums_of (rows_in (open_rows width (of_key by k B))) ∷ rest) (windows_sums by width B keys)

end_sums : (spec : OpSpec) (B : List Placed) → map amounts (end_answer spec (items_in B)) ≡ map (told_by spec) (end_causes spec B)
end_sums (op.Keep column compare limit) B = refl
end_sums (op.Total by) B = refl
end_sums (op.Last by n) B = refl
end_sums (op.Window by width) B = windows_sums by width B (keys_in by (items_in B))
end_sums (op.Crossing by limit) B = refl
end_sums (op.Join by width n column compare limit) B = refl

-- ---- a stage

both_sums : (spec : OpSpec) (xs ys : List Row) (cs ds : List Cause) → map amounts xs ≡ map (told_by spec) cs → map amounts ys ≡ map (told_by spec) ds → map amounts (xs ++ ys) ≡ map (told_by spec) (cs ++ ds)
both_sums spec xs ys cs ds e f =
    map-append amounts xs ys ∙ (ap (λ (z : List Sums). z ++ map amounts ys) e ∙ (ap (λ (z : List Sums). map (told_by spec) cs ++ z) f ∙ sym (map-append (told_by spec) cs ds)))

items_more : (B : List Placed) (x : Placed) → items_in (B ++ x ∷ []) ≡ items_in B ++ item.Row 0 x.row ∷ []
items_more B x = ap (map (item.Row 0)) (rows_one_more B x) ∙ map-append (item.Row 0) (rows_in B) (x.row ∷ [])

rows_placed_to : (stage : Stage) (q : ℕ) (B : List Placed) → rows_in (placed_to stage q B) ≡ rows_to stage q (rows_in B)
rows_placed_to stage q B = sym (filter_mapped (λ (x : Placed). x.row) (λ r. route_of r stage.by stage.parts == q) B)

part_sums : (spec : OpSpec) (B P : List Placed) → IsSpec spec → sums_up spec ≡ true → map amounts (answers spec (items_in B) (items_in P ++ item.End 0 ∷ [])) ≡ map (told_by spec) (part_causes spec B P)
part_sums spec B [] limits sums = ap (map amounts) (append-nil (end_answer spec (items_in B))) ∙ end_sums spec B
part_sums spec B (x ∷ P) limits sums =
    both_sums spec (row_answer spec (items_in B) x.row) (answers spec (items_in B ++ item.Row 0 x.row ∷ []) (items_in P ++ item.End 0 ∷ [])) (row_causes spec B x) (part_causes spec (B ++ x ∷ []) P)
    (row_sums spec B x limits sums)
    (ap (λ (is : List Item). map amounts (answers spec is (items_in P ++ item.End 0 ∷ []))) (sym (items_more B x)) ∙ part_sums spec (B ++ x ∷ []) P limits sums)

replies_sums : (stage : Stage) (E L : List Placed) (q : ℕ) → IsSpec stage.op → sums_up stage.op ≡ true → map amounts (part_replies stage (rows_in E) (rows_in L) q) ≡ map (told_by stage.op) (part_causes stage.op (placed_to stage q E) (placed_to stage q L))
replies_sums stage E L q limits sums =
    ap (λ (rows : List Row). map amounts (answers stage.op (alike rows) (alike (rows_to stage q (rows_in L)) ++ item.End 0 ∷ []))) (sym (rows_placed_to stage q E))
    ∙ (ap (λ (rows : List Row). map amounts (answers stage.op (items_in (placed_to stage q E)) (alike rows ++ item.End 0 ∷ []))) (sym (rows_placed_to stage q L))
    ∙ part_sums stage.op (placed_to stage q E) (placed_to stage q L) limits sums)

late_sums : (stage : Stage) (E L : List Placed) (q n : ℕ) → IsSpec stage.op → sums_up stage.op ≡ true → map amounts (late_replies stage (rows_in E) (rows_in L) q n) ≡ map (told_by stage.op) (late_causes stage E L q n)
late_sums stage E L q zero limits sums = refl
late_sums stage E L q (suc n) limits sums =
    both_sums stage.op (part_replies stage (rows_in E) (rows_in L) q) (late_replies stage (rows_in E) (rows_in L) (q + 1) n) (part_causes stage.op (placed_to stage q E) (placed_to stage q L)) (late_causes stage E L (q + 1) n)
    (replies_sums stage E L q limits sums) (late_sums stage E L (q + 1) n limits sums)

early_sums : (stage : Stage) (B P : List Placed) → IsSpec stage.op → sums_up stage.op ≡ true → map amounts (early_replies stage (rows_in B) (rows_in P)) ≡ map (told_by stage.op) (early_causes stage B P)
early_sums stage B [] limits sums = refl
early_sums stage B (x ∷ P) limits sums =
    let q = route_of x.row stage.by stage.parts in
    both_sums stage.op (row_replies stage (rows_in B) x.row) (early_replies stage (rows_in B ++ x.row ∷ []) (rows_in P)) (row_causes stage.op (placed_to stage q B) x) (early_causes stage (B ++ x ∷ []) P)
    (ap (λ (rows : List Row). map amounts (row_answer stage.op (alike rows) x.row)) (sym (rows_placed_to stage q B)) ∙ row_sums stage.op (placed_to stage q B) x limits sums)
    (ap (λ (rows : List Row). map amounts (early_replies stage rows (rows_in P))) (sym (rows_one_more B x)) ∙ early_sums stage (B ++ x ∷ []) P limits sums)

pub passed_sums : PassedRowsTellWhatCounts
passed_sums stage early late limits sums =
    let E = placed_from 0 early in
    let L = placed_from (length early) late in
    both_sums stage.op (early_replies stage [] early) (late_replies stage early late 0 stage.parts) (early_causes stage [] E) (late_causes stage E L 0 stage.parts)
    (ap (λ (rows : List Row). map amounts (early_replies stage [] rows)) (sym (rows_in-placed 0 early)) ∙ early_sums stage [] E limits.op sums)
    (ap (λ (rows : List Row). map amounts (late_replies stage rows late 0 stage.parts)) (sym (rows_in-placed 0 early))
    ∙ (ap (λ (rows : List Row). map amounts (late_replies stage (rows_in E) rows 0 stage.parts)) (sym (rows_in-placed (length early) late)) ∙ late_sums stage E L 0 stage.parts limits.op sums))
