-- What holds of a stage that splits no keys, and of scripts that aren't safe.
use Rattle.std.specs.Prelude.{◌≡◌, ◌==◌, ◌<◌, not, ℕ, Bool, true, false, List, [], ◌∷◌, Option, Some, None}
use Rattle.std.specs.Bool.{Decides}
use Rattle.std.specs.List.{filter, list_any}
use Rattle.tuple_edge.specs.Row.{route_of}
use Rattle.tuple_edge.specs.declared.row.Row.{Row}
use Rattle.op_spec.specs.Keys.{is_key, key_of}
use Rattle.op_spec.specs.declared.spec.By.{By}
use Rattle.op_spec.specs.declared.spec.By.TheVariants as by
use Rattle.stream_ops.specs.Answers.{end_answer, row_answer}
use Rattle.plan_reader.specs.PlanView.{IsStage, PlanView}
use Rattle.plan_reader.specs.declared.stage.Stage.{Stage}
use Rattle.pair_machine.specs.Scripts.{IsSafe}
use Rattle.pair_machine.specs.declared.order.Order.{Order}
use Rattle.bucket_move.specs.Rows.{items_of}
use Rattle.plan_check.specs.Order.{dealing}
use Rattle.plan_check.specs.Sums.{key_in, splits_keys}
use Rattle.plan_check.specs.Warnings.{is_warned_of_parts, script_warnings}
use Rattle.plan_check.specs.declared.warning.Warning.{Warning}
use Rattle.plan_check.specs.declared.warning.Warning.TheVariants as warning

-- the rows among some that go to a partition of a stage
abbrev pub rows_at : Stage → ℕ → List Row → List Row
rows_at s part rows = filter (λ x. route_of x s.by s.parts == part) rows

-- the rows among some that go to the partition of a row
abbrev pub rows_beside : Stage → Row → List Row → List Row
rows_beside s r rows = rows_at s (route_of r s.by s.parts) rows

-- whether two rows are of one key; without a key no two are
abbrev pub are_of_key : Option By → Row → Row → Bool
are_of_key None x r = false
are_of_key (Some by) x r = is_key (key_of by x) (key_of by r)

-- the rows among some that are of the key of a row
abbrev pub rows_of_key : Stage → Row → List Row → List Row
rows_of_key s r rows = filter (λ x. are_of_key (key_in s.op) x r) rows

-- a row is answered in its partition as in one to which all rows of its key came in that order, alone or among all others
pub record AnswersAsOne (s : Stage) (before : List Row) (r : Row) : Type 0 where
  pub of_key : row_answer s.op (items_of (rows_beside s r before)) r ≡ row_answer s.op (items_of (rows_of_key s r before)) r
  pub of_all : row_answer s.op (items_of (rows_beside s r before)) r ≡ row_answer s.op (items_of before) r

-- A stage that splits no keys answers each row as one partition would.
abbrev pub KeysStayTogether : Type 0
KeysStayTogether = (s : Stage) (before : List Row) (r : Row) → IsStage s → splits_keys s ≡ false → AnswersAsOne s before r

-- And so it answers the end: each partition with those rows of one partition's answer that the column names it for.
abbrev pub EndsStayTogether : Type 0
EndsStayTogether = (s : Stage) (part : ℕ) (before : List Row) → IsStage s → splits_keys s ≡ false → part < s.parts
    → end_answer s.op (items_of (rows_at s part before)) ≡ rows_at s part (end_answer s.op (items_of before))

-- ---- plans

-- none of these stages splits keys
abbrev pub AreUnsplit : List Stage → Type 0
AreUnsplit [] = Unit {0}
AreUnsplit (s ∷ stages) = (splits_keys s ≡ false) × AreUnsplit stages

-- A plan that isn't warned of for its partitions splits no keys, and no rows of one key leave it from several partitions of a stage behind a `window`.
abbrev pub QuietPlansDealNone : Type 0
QuietPlansDealNone = (plan : PlanView) → is_warned_of_parts plan ≡ false → AreUnsplit plan.stages × (dealing by.Both 1 plan.stages ≡ None)

-- ---- scripts

-- whether a warning says that a script isn't safe
abbrev pub is_unsafe : Warning → Bool
is_unsafe (warning.Unsafe first second) = true
is_unsafe w = false

-- A script is warned of as not safe exactly where it isn't safe.
abbrev pub UnsafeScriptsAreTold : Type 0
UnsafeScriptsAreTold = (orders : List Order) → Decides (not (list_any is_unsafe (script_warnings orders))) (IsSafe orders)
