-- Stages one after the other, in their partitions and in one.
use Rattle.std.proofs.Common.{ℕ, ℤ, ◌≡◌, ◌≤◌, ◌<◌, ◌+◌, Bool, true, false, cond, List, [], ◌∷◌, ◌++◌, Option, Some, None, map, refl, sym, ap, ◌∙◌, subst, arith, pos, negsuc, inl, inr}
use Rattle.std.specs.Prelude.{◌&&◌, nat_lt, not, unsigned_abs, if◌then◌else◌}
use Rattle.std.specs.Int.{int_rem_euclid}
use Rattle.std.specs.List.{filter}
use Rattle.std.proofs.Math.Nat.{mod-lt}
use Rattle.std.proofs.lemmas.Bool.{cases_Bool, false≢true}
use Rattle.std.proofs.lemmas.Bool.Decides.{nat_tests}
use Rattle.tuple_edge.specs.Row.{column_of, route_of}
use Rattle.tuple_edge.specs.declared.item.Item.{Item}
use Rattle.tuple_edge.specs.declared.row.Column.{Column}
use Rattle.tuple_edge.specs.declared.row.Column.TheVariants as column
use Rattle.tuple_edge.specs.declared.row.Key.{Key}
use Rattle.tuple_edge.specs.declared.row.Row.{Row}
use Rattle.op_spec.specs.Keys.{is_key, key_of}
use Rattle.op_spec.specs.declared.spec.By.{By}
use Rattle.op_spec.specs.declared.spec.By.TheVariants as by
use Rattle.op_spec.specs.declared.spec.OpSpec.{OpSpec}
use Rattle.stream_ops.specs.Answers.{answers}
use Rattle.stream_ops.proofs.Keyed.{same_key}
use Rattle.plan_reader.specs.PlanView.{IsStage}
use Rattle.plan_reader.specs.declared.stage.Stage.{Stage}
use Rattle.bucket_move.specs.ByKey.{holds_column}
use Rattle.bucket_move.specs.Rows.{items_of}
use Rattle.evaluation.specs.StageRows.{early_replies, late_replies}
use Rattle.plan_check.specs.Order.{dealing, deals_out, first_dealing, has_column, is_window, key_behind}
use Rattle.plan_check.specs.Stages.{numbered}
use Rattle.plan_check.specs.Sums.{splits_keys}
use Rattle.plan_check.proofs.Ends.{in_row, of_key}
use Rattle.plan_check.proofs.Passing.{to_one}
use Rattle.partition_law.proofs.Choosing.{answers_chosen, chosen, chosen_by, to_end}
use Rattle.partition_law.proofs.Parts.{early_as_one, late_chosen, nothing_late, nothing_to_end}

-- ---- what comes of rows

-- the rows that stages give meanwhile, and those at the end, each stage in its partitions
abbrev pub early_through : List Stage → List Row → List Row
early_through [] early = early
early_through (s ∷ stages) early = early_through stages (early_replies s [] early)

abbrev pub late_through : List Stage → List Row → List Row → List Row
late_through [] early late = late
late_through (s ∷ stages) early late = late_through stages (early_replies s [] early) (late_replies s early late 0 s.parts)

-- the same of operators, each in one partition
abbrev pub early_in_one : List OpSpec → List Row → List Row
early_in_one [] early = early
early_in_one (spec ∷ specs) early = early_in_one specs (answers spec [] (items_of early))

abbrev pub late_in_one : List OpSpec → List Row → List Row → List Row
late_in_one [] early late = late
late_in_one (spec ∷ specs) early late = late_in_one specs (answers spec [] (items_of early)) (to_end spec early late)

-- stages within their limits that split no keys
abbrev pub AreWhole : List Stage → Type 0
AreWhole [] = Unit {0}
AreWhole (s ∷ stages) = (IsStage s × (splits_keys s ≡ false)) × AreWhole stages

abbrev pub specs_of : List Stage → List OpSpec
specs_of stages = map (λ s. s.op) stages

pub early_alike : (stages : List Stage) (early : List Row) → AreWhole stages → early_through stages early ≡ early_in_one (specs_of stages) early
early_alike [] early whole = refl
early_alike (s ∷ stages) early whole =
    ap (early_through stages) (early_as_one s [] early whole.0.0 whole.0.1) ∙ early_alike stages (answers s.op [] (items_of early)) whole.1

-- ---- a key, and what stages leave of it

-- the part of a key that an operator by this key leaves
abbrev pub cut_to : By → Key → Key
cut_to by.Account k = record { account = k.account; symbol = pos 0 }
cut_to by.Symbol k = record { account = pos 0; symbol = k.symbol }
cut_to by.Both k = record { account = k.account; symbol = k.symbol }

pub cut_row : (key : By) (x : Row) → cut_to key (key_of by.Both x) ≡ key_of key x
cut_row by.Account x = refl
cut_row by.Symbol x = refl
cut_row by.Both x = refl

-- a column that the key holds stays
cut_column : (key : By) (c : Column) (k : Key) → holds_column key c ≡ true → of_key c (cut_to key k) ≡ of_key c k
cut_column by.Account column.Account k holds = refl
cut_column by.Account column.Symbol k holds = absurd (false≢true holds)
cut_column by.Account column.Time k holds = absurd (false≢true holds)
cut_column by.Account column.Qty k holds = absurd (false≢true holds)
cut_column by.Account column.Value k holds = absurd (false≢true holds)
cut_column by.Symbol column.Account k holds = absurd (false≢true holds)
cut_column by.Symbol column.Symbol k holds = refl
cut_column by.Symbol column.Time k holds = absurd (false≢true holds)
cut_column by.Symbol column.Qty k holds = absurd (false≢true holds)
cut_column by.Symbol column.Value k holds = absurd (false≢true holds)
cut_column by.Both column.Account k holds = refl
cut_column by.Both column.Symbol k holds = refl
cut_column by.Both column.Time k holds = absurd (false≢true holds)
cut_column by.Both column.Qty k holds = absurd (false≢true holds)
cut_column by.Both column.Value k holds = absurd (false≢true holds)

pub both_true : (a b : Bool) → (a && b) ≡ true → (a ≡ true) × (b ≡ true)
both_true true true is = (refl, refl)
both_true true false is = absurd (false≢true is)
both_true false b is = absurd (false≢true is)

pub unless_found : {A : Type 0} (t : Bool) (n : A) (rest : Option A) → (if t then Some n else rest) ≡ None → (t ≡ false) × (rest ≡ None)
unless_found true n rest none = let never : false ≡ true = cc none in absurd (false≢true never)
unless_found false n rest none = (refl, none)

-- tests that agree choose the same rows
pub chosen_alike : (p q : Row → Bool) (rows : List Row) → ((x : Row) → p x ≡ q x) → filter p rows ≡ filter q rows
chosen_alike p q [] agree = refl
chosen_alike p q (x ∷ rows) agree = rw (agree x) (ap (λ (rest : List Row). cond (q x) (x ∷ rest) rest) (chosen_alike p q rows agree))

-- ---- from the first window on

module _ (key : By) (k : Key) where
  -- the test of rows behind all stages, and of those before them
  abbrev pub last_test : Key → Bool
  last_test q = is_key (cut_to key q) k

  abbrev pub test_before : List Stage → Key → Bool
  test_before [] q = last_test q
  test_before (s ∷ stages) q = test_before stages (cut_to (key_behind s.op) q)

  -- a column that rows have behind all stages is the key's in each row that comes to the key
  decides : (stages : List Stage) (c : Column) (q : Key) → holds_column key c ≡ true → has_column c stages ≡ true → test_before stages q ≡ true → of_key c q ≡ of_key c k
  decides [] c q holds had passes = sym (cut_column key c q holds) ∙ ap (of_key c) (same_key (cut_to key q) k passes)
  decides (s ∷ stages) c q holds had passes =
      let both = both_true (holds_column (key_behind s.op) c) (has_column c stages) had in
      sym (cut_column (key_behind s.op) c q both.0) ∙ decides stages c (cut_to (key_behind s.op) q) holds both.1 passes

  abbrev place_of : Column → ℕ → ℕ
  place_of c parts = unsigned_abs (int_rem_euclid (of_key c k) (pos parts))

  -- so all rows that come to the key go to one partition
  goes_to_one : (s : Stage) (stages : List Stage) (x : Row) → holds_column key s.by ≡ true → has_column s.by (s ∷ stages) ≡ true → test_before stages (key_of (key_behind s.op) x) ≡ true
      → route_of x s.by s.parts ≡ place_of s.by s.parts
  goes_to_one s stages x holds had passes =
      let both = both_true (holds_column (key_behind s.op) s.by) (has_column s.by stages) had in
      ap (λ (z : ℤ). unsigned_abs (int_rem_euclid z (pos s.parts))) (in_row (key_behind s.op) s.by x both.0 ∙ decides stages s.by (key_of (key_behind s.op) x) holds both.1 passes)

  -- the rows of the test that come to a stage are those that its operator looks at for them
  before_stage : (s : Stage) (stages : List Stage) (rows : List Row) → chosen (test_before (s ∷ stages)) rows ≡ chosen_by (key_behind s.op) (test_before stages) rows
  before_stage s stages rows =
      chosen_alike (λ x. test_before (s ∷ stages) (key_of by.Both x)) (λ x. test_before stages (key_of (key_behind s.op) x)) rows (λ x. ap (test_before stages) (cut_row (key_behind s.op) x))

  -- ---- one stage

  stage_chosen : (s : Stage) (stages : List Stage) (early late : List Row) → IsStage s → splits_keys s ≡ false → deals_out key s stages ≡ false
      → chosen (test_before stages) (late_replies s early late 0 s.parts)
      ≡ to_end s.op (chosen_by (key_behind s.op) (test_before stages) early) (chosen_by (key_behind s.op) (test_before stages) late)
  stage_chosen s stages early late limits together none = elim (cases_Bool (nat_lt 1 s.parts)) [
    | inr one ↦
        let some : 1 ≤ s.parts = limits.some in
        let single : s.parts ≡ 1 = grind (arith, nat_tests, one, some) in
        late_chosen s (test_before stages) 0 (λ x passes. to_one s x single) early late (omega (arith, some))
    | inl several ↦
        let some : 1 ≤ s.parts = limits.some in
        let both = both_true (holds_column key s.by) (has_column s.by (s ∷ stages)) (held (holds_column key s.by && has_column s.by (s ∷ stages)) (dealt several)) in
        late_chosen s (test_before stages) (place_of s.by s.parts) (λ x passes. goes_to_one s stages x both.0 both.1 passes) early late (place_below (of_key s.by k) s.parts some)
  ]
    where
      place_below : (z : ℤ) (n : ℕ) → 1 ≤ n → unsigned_abs (int_rem_euclid z (pos n)) < n
      place_below (pos a) n some = mod-lt a some
      place_below (negsuc a) n some = omega (arith, mod-lt a some)

      held : (t : Bool) → not t ≡ false → t ≡ true
      held true is = refl
      held false is = absurd (false≢true (sym is))

      dealt : nat_lt 1 s.parts ≡ true → not (holds_column key s.by && has_column s.by (s ∷ stages)) ≡ false
      dealt several =
          ap (λ (t : Bool). t && (not false && not (holds_column key s.by && has_column s.by (s ∷ stages)))) (sym several)
          ∙ ap (λ (t : Bool). nat_lt 1 s.parts && (not t && not (holds_column key s.by && has_column s.by (s ∷ stages)))) (sym together)
          ∙ none

  -- ---- stages

  from_window : (number : ℕ) (stages : List Stage) (early late beside : List Row) → AreWhole stages → first_dealing key number stages ≡ None
      → chosen (test_before stages) late ≡ chosen (test_before stages) beside
      → chosen last_test (late_through stages early late) ≡ chosen last_test (late_in_one (specs_of stages) early beside)
  from_window number [] early late beside whole none same = same
  from_window number (s ∷ stages) early late beside whole none same =
      let first = unless_found (deals_out key s stages) (numbered number s) (first_dealing key (number + 1) stages) none in
      let here : List Row → List Row = λ rows. chosen_by (key_behind s.op) (test_before stages) rows in
      let rows : here late ≡ here beside = sym (before_stage s stages late) ∙ same ∙ before_stage s stages beside in
      let next : chosen (test_before stages) (late_replies s early late 0 s.parts) ≡ chosen (test_before stages) (to_end s.op early beside) =
      stage_chosen s stages early late whole.0.0 whole.0.1 first.0
      ∙ ap (to_end s.op (here early)) rows
      ∙ sym (answers_chosen s.op (test_before stages) beside early) in
      ap (λ (front : List Row). chosen last_test (late_through stages front (late_replies s early late 0 s.parts))) (early_as_one s [] early whole.0.0 whole.0.1)
      ∙ from_window (number + 1) stages (answers s.op [] (items_of early)) (late_replies s early late 0 s.parts) (to_end s.op early beside) whole.1 first.1 next

  pub late_alike : (number : ℕ) (stages : List Stage) (early : List Row) → AreWhole stages → dealing key number stages ≡ None
      → chosen last_test (late_through stages early []) ≡ chosen last_test (late_in_one (specs_of stages) early [])
  late_alike number [] early whole none = refl
  late_alike number (s ∷ stages) early whole none = by_kind (is_window s.op) refl none (late_alike (number + 1) stages (answers s.op [] (items_of early)) whole.1)
    where
      by_kind : (t : Bool) → is_window s.op ≡ t → (if t then first_dealing key number (s ∷ stages) else dealing key (number + 1) stages) ≡ None
          → (dealing key (number + 1) stages ≡ None
          → chosen last_test (late_through stages (answers s.op [] (items_of early)) []) ≡ chosen last_test (late_in_one (specs_of stages) (answers s.op [] (items_of early)) []))
          → chosen last_test (late_through (s ∷ stages) early []) ≡ chosen last_test (late_in_one (specs_of (s ∷ stages)) early [])
      by_kind true is none later = from_window number (s ∷ stages) early [] [] whole none refl
      by_kind false is none later =
          ap (λ (front : List Row). chosen last_test (late_through stages front (late_replies s early [] 0 s.parts))) (early_as_one s [] early whole.0.0 whole.0.1)
          ∙ ap (λ (late : List Row). chosen last_test (late_through stages (answers s.op [] (items_of early)) late)) (nothing_late s early is)
          ∙ later none
          ∙ ap (λ (late : List Row). chosen last_test (late_in_one (specs_of stages) (answers s.op [] (items_of early)) late)) (sym (nothing_to_end s.op early is))
