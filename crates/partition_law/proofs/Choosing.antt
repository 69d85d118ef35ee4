-- An operator's answers are chosen by a test of their key as the rows that it is given are: a row is answered with rows of its own key, and from rows of its own key.
use Rattle.std.proofs.Common.{ℤ, ◌≡◌, Bool, true, false, cond, List, [], ◌∷◌, ◌++◌, map, refl, sym, ap, ◌∙◌}
use Rattle.std.specs.Prelude.{Some, if◌then◌else◌}
use Rattle.std.specs.List.{filter}
use Rattle.std.proofs.lemmas.Bool.{false≢true}
use Rattle.std.proofs.lemmas.List.{append-nil, map-append}
use Rattle.std.proofs.lemmas.List.Elements.{filter-append}
use Rattle.tuple_edge.specs.declared.item.Item.{Item}
use Rattle.tuple_edge.specs.declared.item.Item.TheVariants as item
use Rattle.tuple_edge.specs.declared.row.Key.{Key}
use Rattle.tuple_edge.specs.declared.row.Row.{Row}
use Rattle.op_spec.specs.Keys.{is_key, key_of}
use Rattle.op_spec.specs.declared.spec.By.{By}
use Rattle.op_spec.specs.declared.spec.By.TheVariants as by
use Rattle.op_spec.specs.declared.spec.OpSpec.{OpSpec}
use Rattle.op_spec.specs.declared.spec.OpSpec.TheVariants as op
use Rattle.stream_ops.specs.Answers.{answers, end_answer, row_answer, window_answer, window_row}
use Rattle.stream_ops.specs.Joins.{pair_row}
use Rattle.stream_ops.specs.Rows.{keys_among, keys_in, rows_with}
use Rattle.stream_ops.proofs.Keyed.{same_key}
use Rattle.bucket_move.specs.Rows.{items_of}
use Rattle.bucket_move.proofs.ByKeyAnswers.{rows_of-items_of}
use Rattle.plan_check.specs.Order.{key_behind}
use Rattle.plan_check.specs.Sums.{key_in}
use Rattle.plan_check.proofs.Ends.{keys_pass, made_alike, rows_of_passed}
use Rattle.plan_check.proofs.Passing.{filter_within}
use Rattle.plan_check.proofs.Together.{row_answer-key}

-- the rows whose account and symbol pass a test
abbrev pub chosen : (Key → Bool) → List Row → List Row
chosen g rows = filter (λ x. g (key_of by.Both x)) rows

-- the rows whose key passes a test
abbrev pub chosen_by : By → (Key → Bool) → List Row → List Row
chosen_by key g rows = filter (λ x. g (key_of key x)) rows

-- ---- rows of one key

-- all these rows have this account and symbol
abbrev AreOf : Key → List Row → Type 0
AreOf k [] = Unit {0}
AreOf k (x ∷ rows) = (key_of by.Both x ≡ k) × AreOf k rows

either : (t : Bool) (rows : List Row) → cond t rows rows ≡ rows
either true rows = refl
either false rows = refl

chosen_of : (g : Key → Bool) (k : Key) (rows : List Row) → AreOf k rows → chosen g rows ≡ cond (g k) rows []
chosen_of g k [] of = sym (either (g k) [])
chosen_of g k (x ∷ rows) of = ap (λ (t : Bool). cond t (x ∷ chosen g rows) (chosen g rows)) (ap g of.0) ∙ by_test (g k) (chosen_of g k rows of.1)
  where
    by_test : (t : Bool) → chosen g rows ≡ cond t rows [] → cond t (x ∷ chosen g rows) (chosen g rows) ≡ cond t (x ∷ rows) []
    by_test true later = ap (λ rest. x ∷ rest) later
    by_test false later = later

of_either : (t : Bool) (k : Key) (x : Row) → key_of by.Both x ≡ k → AreOf k (if t then x ∷ [] else [])
of_either true k x same = (same, tt)
of_either false k x same = tt

of_pairs : (k : Key) (r : Row) (others : List Row) → AreOf k (map (pair_row k r) others)
of_pairs k r [] = tt
of_pairs k r (x ∷ others) = (refl, of_pairs k r others)

of_window : (width : ℤ) (k : Key) (rows : List Row) (r : Row) → AreOf k (window_answer width k rows r)
of_window width k [] r = tt
of_window width k (x ∷ rows) r = of_either _ k (window_row width k (x ∷ rows)) refl

-- an operator with a key answers a row with rows of its key
answer_of : (spec : OpSpec) (key : By) (before : List Item) (r : Row) → key_in spec ≡ Some key → AreOf (key_of key r) (row_answer spec before r)
answer_of (op.Keep column compare limit) key before r is = let never : false ≡ true = cc is in absurd (false≢true never)
answer_of (op.Total of) key before r is = let k : of ≡ key = cc is in rw k (refl, tt)
answer_of (op.Last of n) key before r is = let k : of ≡ key = cc is in rw k (refl, tt)
answer_of (op.Window of width) key before r is = let k : of ≡ key = cc is in rw k (of_window width (key_of key r) (rows_with key before (key_of key r)) r)
answer_of (op.Crossing of limit) key before r is = let k : of ≡ key = cc is in rw k (of_either _ (key_of key r) _ refl)
answer_of (op.Join of width n column compare limit) key before r is = let k : of ≡ key = cc is in rw k (of_pairs (key_of key r) r _)

-- ---- the answer to a row

-- all rows of a key are among those whose key passes, if it does
rows_with-chosen : (key : By) (g : Key → Bool) (k : Key) (rows : List Row) → g k ≡ true → rows_with key (items_of (chosen_by key g rows)) k ≡ rows_with key (items_of rows) k
rows_with-chosen key g k rows passes =
    let test : Row → Bool = λ x. is_key (key_of key x) k in
    ap (filter test) (rows_of-items_of (chosen_by key g rows))
    ∙ filter_within test (λ x. g (key_of key x)) rows (λ x same. ap g (same_key (key_of key x) k same) ∙ passes)
    ∙ ap (filter test) (sym (rows_of-items_of rows))

keyed_chosen : (spec : OpSpec) (key : By) (g : Key → Bool) (before : List Row) (r : Row) → key_in spec ≡ Some key
    → chosen g (row_answer spec (items_of before) r) ≡ cond (g (key_of key r)) (row_answer spec (items_of (chosen_by key g before)) r) []
keyed_chosen spec key g before r is = chosen_of g (key_of key r) (row_answer spec (items_of before) r) (answer_of spec key (items_of before) r is) ∙ by_test (g (key_of key r)) refl
  where
    by_test : (t : Bool) → g (key_of key r) ≡ t → cond t (row_answer spec (items_of before) r) [] ≡ cond t (row_answer spec (items_of (chosen_by key g before)) r) []
    by_test true passes = sym (row_answer-key spec key (chosen_by key g before) before r is (rows_with-chosen key g (key_of key r) before passes))
    by_test false fails = refl

kept_chosen : (g : Key → Bool) (r : Row) (t : Bool) → chosen g (if t then r ∷ [] else []) ≡ cond (g (key_of by.Both r)) (if t then r ∷ [] else []) []
kept_chosen g r true = refl
kept_chosen g r false = sym (either (g (key_of by.Both r)) [])

row_chosen : (spec : OpSpec) (g : Key → Bool) (before : List Row) (r : Row)
    → chosen g (row_answer spec (items_of before) r) ≡ cond (g (key_of (key_behind spec) r)) (row_answer spec (items_of (chosen_by (key_behind spec) g before)) r) []
row_chosen (op.Keep column compare limit) g before r = kept_chosen g r _
row_chosen (op.Total key) g before r = keyed_chosen (op.Total key) key g before r refl
row_chosen (op.Last key n) g before r = keyed_chosen (op.Last key n) key g before r refl
row_chosen (op.Window key width) g before r = keyed_chosen (op.Window key width) key g before r refl
row_chosen (op.Crossing key limit) g before r = keyed_chosen (op.Crossing key limit) key g before r refl
row_chosen (op.Join key width n column compare limit) g before r = keyed_chosen (op.Join key width n column compare limit) key g before r refl

-- ---- the answer to the end

windows_chosen : (key : By) (width : ℤ) (g : Key → Bool) (rows : List Row)
    → chosen g (end_answer (op.Window key width) (items_of rows)) ≡ end_answer (op.Window key width) (items_of (chosen_by key g rows))
windows_chosen key width g rows =
    let p : Row → Bool = λ x. g (key_of key x) in
    let told : List Row → Key → Row = λ of k. window_row width k (rows_with key (items_of of) k) in
    let keys : keys_in key (items_of (filter p rows)) ≡ filter g (keys_in key (items_of rows)) =
    ap (keys_among key) (rows_of-items_of (filter p rows)) ∙ keys_pass key g p (λ x. refl) rows ∙ ap (λ (rs : List Row). filter g (keys_among key rs)) (sym (rows_of-items_of rows)) in
    rows_of_passed (λ x. g (key_of by.Both x)) g (told rows) (λ k. refl) (keys_in key (items_of rows))
    ∙ sym (made_alike g (told (filter p rows)) (told rows) (λ k there. ap (window_row width k) (rows_with-chosen key g k rows there)) (keys_in key (items_of rows)))
    ∙ sym (ap (map (told (filter p rows))) keys)

end_chosen : (spec : OpSpec) (g : Key → Bool) (rows : List Row) → chosen g (end_answer spec (items_of rows)) ≡ end_answer spec (items_of (chosen_by (key_behind spec) g rows))
end_chosen (op.Keep column compare limit) g rows = refl
end_chosen (op.Total key) g rows = refl
end_chosen (op.Last key n) g rows = refl
end_chosen (op.Window key width) g rows = windows_chosen key width g rows
end_chosen (op.Crossing key limit) g rows = refl
end_chosen (op.Join key width n column compare limit) g rows = refl

-- ---- the answers to rows and the end

-- what an operator answers to rows and the end, after the rows before them
abbrev pub to_end : OpSpec → List Row → List Row → List Row
to_end spec before rows = answers spec (items_of before) (items_of rows ++ item.End 0 ∷ [])

-- one row more before
pub items_more : (before : List Row) (r : Row) → items_of (before ++ r ∷ []) ≡ items_of before ++ item.Row 0 r ∷ []
items_more before r = map-append (λ x. item.Row 0 x) before (r ∷ [])

to_end-cons : (spec : OpSpec) (before : List Row) (r : Row) (rows : List Row) → to_end spec before (r ∷ rows) ≡ row_answer spec (items_of before) r ++ to_end spec (before ++ r ∷ []) rows
to_end-cons spec before r rows = ap (λ (is : List Item). row_answer spec (items_of before) r ++ answers spec is (items_of rows ++ item.End 0 ∷ [])) (sym (items_more before r))

module _ (spec : OpSpec) (g : Key → Bool) where
  abbrev here : List Row → List Row
  here rows = chosen_by (key_behind spec) g rows

  more_chosen : (before : List Row) (r : Row) (t : Bool) → g (key_of (key_behind spec) r) ≡ t → here (before ++ r ∷ []) ≡ here before ++ cond t (r ∷ []) []
  more_chosen before r t is = filter-append (λ x. g (key_of (key_behind spec) x)) before (r ∷ []) ∙ ap (λ (t : Bool). here before ++ cond t (r ∷ []) []) is

  pub answers_chosen : (rows before : List Row) → chosen g (to_end spec before rows) ≡ to_end spec (here before) (here rows)
  answers_chosen [] before =
      ap (chosen g) (append-nil (end_answer spec (items_of before)))
      ∙ end_chosen spec g before
      ∙ sym (append-nil (end_answer spec (items_of (here before))))
  answers_chosen (r ∷ rows) before =
      ap (chosen g) (to_end-cons spec before r rows)
      ∙ filter-append (λ x. g (key_of by.Both x)) (row_answer spec (items_of before) r) (to_end spec (before ++ r ∷ []) rows)
      ∙ ap (λ (out : List Row). out ++ chosen g (to_end spec (before ++ r ∷ []) rows)) (row_chosen spec g before r)
      ∙ by_test (g (key_of (key_behind spec) r)) refl (answers_chosen rows (before ++ r ∷ []))
    where
      by_test : (t : Bool) → g (key_of (key_behind spec) r) ≡ t → chosen g (to_end spec (before ++ r ∷ []) rows) ≡ to_end spec (here (before ++ r ∷ [])) (here rows)
          → cond t (row_answer spec (items_of (here before)) r) [] ++ chosen g (to_end spec (before ++ r ∷ []) rows) ≡ to_end spec (here before) (cond t (r ∷ here rows) (here rows))
      by_test true passes later =
          ap (λ (rest : List Row). row_answer spec (items_of (here before)) r ++ rest)
          (later ∙ ap (λ (front : List Row). to_end spec front (here rows)) (more_chosen before r true passes))
          ∙ sym (to_end-cons spec (here before) r (here rows))
      by_test false fails later = later ∙ ap (λ (front : List Row). to_end spec front (here rows)) (more_chosen before r false fails ∙ append-nil (here before))
