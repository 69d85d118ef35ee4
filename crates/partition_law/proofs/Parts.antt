-- What a stage answers to rows and the end, where all rows that a test chooses go to one of its partitions: what that partition answers to them.
use Rattle.std.proofs.Common.{ℕ, zero, suc, ◌≡◌, ◌≢◌, ◌≤◌, ◌<◌, ◌+◌, Bool, true, false, cond, List, [], ◌∷◌, ◌++◌, refl, sym, ap, ◌∙◌, subst, arith, inl, inr}
use Rattle.std.specs.Prelude.{◌==◌}
use Rattle.std.specs.List.{filter}
use Rattle.std.proofs.lemmas.Bool.{cases_Bool, eq-eqb, eqb-true, false≢true}
use Rattle.std.proofs.lemmas.List.{append-nil}
use Rattle.std.proofs.lemmas.List.Elements.{filter-append}
use Rattle.tuple_edge.specs.Row.{route_of}
use Rattle.tuple_edge.specs.declared.item.Item.{Item}
use Rattle.tuple_edge.specs.declared.item.Item.TheVariants as item
use Rattle.tuple_edge.specs.declared.row.Key.{Key}
use Rattle.tuple_edge.specs.declared.row.Row.{Row}
use Rattle.op_spec.specs.Keys.{key_of}
use Rattle.op_spec.specs.declared.spec.By.TheVariants as by
use Rattle.op_spec.specs.declared.spec.OpSpec.{OpSpec}
use Rattle.op_spec.specs.declared.spec.OpSpec.TheVariants as op
use Rattle.stream_ops.specs.Answers.{answers, end_answer, row_answer}
use Rattle.plan_reader.specs.PlanView.{IsStage}
use Rattle.plan_reader.specs.declared.stage.Stage.{Stage}
use Rattle.bucket_move.specs.Rows.{items_of}
use Rattle.evaluation.specs.StageRows.{alike, early_replies, late_replies, part_replies, row_replies, rows_to}
use Rattle.plan_check.specs.Order.{is_window, key_behind}
use Rattle.plan_check.specs.Sums.{splits_keys}
use Rattle.plan_check.proofs.Passing.{filter_within}
use Rattle.plan_check.proofs.Together.{keys_together}
use Rattle.partition_law.proofs.Choosing.{answers_chosen, chosen, chosen_by, items_more, to_end}

-- ---- rows that come in meanwhile

-- a stage that splits no keys answers rows as one partition does
pub early_as_one : (s : Stage) (before rows : List Row) → IsStage s → splits_keys s ≡ false → early_replies s before rows ≡ answers s.op (items_of before) (items_of rows)
early_as_one s before [] limits together = refl
early_as_one s before (r ∷ rows) limits together =
    ap (λ (out : List Row). out ++ early_replies s (before ++ r ∷ []) rows) ((keys_together s before r limits together).of_all)
    ∙ ap (λ (rest : List Row). row_answer s.op (items_of before) r ++ rest)
    (early_as_one s (before ++ r ∷ []) rows limits together ∙ ap (λ (is : List Item). answers s.op is (items_of rows)) (items_more before r))

-- ---- rows at the end

-- tests of which not both pass leave no row
none_passes : (p q : Row → Bool) (rows : List Row) → ((x : Row) → p x ≡ true → q x ≡ false) → filter p (filter q rows) ≡ []
none_passes p q [] apart = refl
none_passes p q (x ∷ rows) apart = by_tests (q x) (p x) refl refl (none_passes p q rows apart)
  where
    by_tests : (t u : Bool) → q x ≡ t → p x ≡ u → filter p (filter q rows) ≡ [] → filter p (cond t (x ∷ filter q rows) (filter q rows)) ≡ []
    by_tests true true inside here later = absurd (false≢true (sym (apart x here) ∙ inside))
    by_tests true false inside here later = rw here later
    by_tests false u inside here later = later

-- without rows there is no answer to the end
none_to_end : (spec : OpSpec) → to_end spec [] [] ≡ []
none_to_end (op.Keep column compare limit) = refl
none_to_end (op.Total key) = refl
none_to_end (op.Last key n) = refl
none_to_end (op.Window key width) = refl
none_to_end (op.Crossing key limit) = refl
none_to_end (op.Join key width n column compare limit) = refl

module _ (s : Stage) (g : Key → Bool) (at : ℕ) (goes : (x : Row) → g (key_of (key_behind s.op) x) ≡ true → route_of x s.by s.parts ≡ at) where
  abbrev here : List Row → List Row
  here rows = chosen_by (key_behind s.op) g rows

  abbrev test : Row → Bool
  test x = g (key_of (key_behind s.op) x)

  in_part : (q : ℕ) (rows : List Row) → at ≡ q → here (rows_to s q rows) ≡ here rows
  in_part q rows same = filter_within test (λ x. route_of x s.by s.parts == q) rows (λ x passes. eq-eqb (route_of x s.by s.parts) q (goes x passes ∙ same))

  not_at : (x : Row) (q : ℕ) → at ≢ q → test x ≡ true → (t : Bool) → (route_of x s.by s.parts == q) ≡ t → t ≡ false
  not_at x q apart passes true is = absurd (apart (sym (goes x passes) ∙ eqb-true (route_of x s.by s.parts) q is))
  not_at x q apart passes false is = refl

  in_other : (q : ℕ) (rows : List Row) → at ≢ q → here (rows_to s q rows) ≡ []
  in_other q rows apart = none_passes test (λ x. route_of x s.by s.parts == q) rows (λ x passes. not_at x q apart passes _ refl)

  -- the one partition's rows are all that the test chooses, and another's are none of them
  part_of : (early late : List Row) (q : ℕ) → at ≡ q → chosen g (part_replies s early late q) ≡ to_end s.op (here early) (here late)
  part_of early late q same =
      answers_chosen s.op g (rows_to s q late) (rows_to s q early)
      ∙ ap (λ (rows : List Row). to_end s.op rows (here (rows_to s q late))) (in_part q early same)
      ∙ ap (to_end s.op (here early)) (in_part q late same)

  part_other : (early late : List Row) (q : ℕ) → at ≢ q → chosen g (part_replies s early late q) ≡ []
  part_other early late q apart =
      answers_chosen s.op g (rows_to s q late) (rows_to s q early)
      ∙ ap (λ (rows : List Row). to_end s.op rows (here (rows_to s q late))) (in_other q early apart)
      ∙ ap (to_end s.op []) (in_other q late apart)
      ∙ none_to_end s.op

  after_it : (early late : List Row) (q n : ℕ) → at < q → chosen g (late_replies s early late q n) ≡ []
  after_it early late q zero past = refl
  after_it early late q (suc n) past =
      filter-append (λ x. g (key_of by.Both x)) (part_replies s early late q) (late_replies s early late (q + 1) n)
      ∙ ap (λ (rows : List Row). rows ++ chosen g (late_replies s early late (q + 1) n)) (part_other early late q (λ e. omega (arith, e, past)))
      ∙ after_it early late (q + 1) n (omega (arith, past))

  from_it : (early late : List Row) (q n : ℕ) → q ≤ at → at < q + n → chosen g (late_replies s early late q n) ≡ to_end s.op (here early) (here late)
  from_it early late q zero low high = absurd (omega (arith, low, high))
  from_it early late q (suc n) low high =
      filter-append (λ x. g (key_of by.Both x)) (part_replies s early late q) (late_replies s early late (q + 1) n)
      ∙ by_place (at == q) (eqb-true at q) (eq-eqb at q) (λ apart. from_it early late (q + 1) n (omega (arith, low, apart)) (omega (arith, high)))
    where
      by_place : (t : Bool) → (t ≡ true → at ≡ q) → (at ≡ q → t ≡ true) → (at ≢ q → chosen g (late_replies s early late (q + 1) n) ≡ to_end s.op (here early) (here late))
          → chosen g (part_replies s early late q) ++ chosen g (late_replies s early late (q + 1) n) ≡ to_end s.op (here early) (here late)
      by_place true same back later =
          ap (λ (rows : List Row). rows ++ chosen g (late_replies s early late (q + 1) n)) (part_of early late q (same refl))
          ∙ ap (λ (rows : List Row). to_end s.op (here early) (here late) ++ rows) (after_it early late (q + 1) n (omega (arith, same refl)))
          ∙ append-nil (to_end s.op (here early) (here late))
      by_place false same back later =
          let apart : at ≢ q = λ e. false≢true (back e) in
          ap (λ (rows : List Row). rows ++ chosen g (late_replies s early late (q + 1) n)) (part_other early late q apart)
          ∙ later apart

  -- so a stage answers those rows as one partition does to which only they came
  pub late_chosen : (early late : List Row) → at < s.parts → chosen g (late_replies s early late 0 s.parts) ≡ to_end s.op (here early) (here late)
  late_chosen early late some = from_it early late 0 s.parts (omega arith) (omega (arith, some))

-- ---- before a window

no_end : (spec : OpSpec) (before : List Item) → is_window spec ≡ false → end_answer spec before ≡ []
no_end (op.Keep column compare limit) before plain = refl
no_end (op.Total key) before plain = refl
no_end (op.Last key n) before plain = refl
no_end (op.Window key width) before plain = absurd (false≢true (sym plain))
no_end (op.Crossing key limit) before plain = refl
no_end (op.Join key width n column compare limit) before plain = refl

-- an operator that is no `window` answers nothing to the end
pub nothing_to_end : (spec : OpSpec) (before : List Row) → is_window spec ≡ false → to_end spec before [] ≡ []
nothing_to_end spec before plain = append-nil (end_answer spec (items_of before)) ∙ no_end spec (items_of before) plain

nothing_from : (s : Stage) (early : List Row) (q n : ℕ) → is_window s.op ≡ false → late_replies s early [] q n ≡ []
nothing_from s early q zero plain = refl
nothing_from s early q (suc n) plain =
    ap (λ (rows : List Row). rows ++ late_replies s early [] (q + 1) n) (nothing_to_end s.op (rows_to s q early) plain)
    ∙ nothing_from s early (q + 1) n plain

pub nothing_late : (s : Stage) (early : List Row) → is_window s.op ≡ false → late_replies s early [] 0 s.parts ≡ []
nothing_late s early plain = nothing_from s early 0 s.parts plain
