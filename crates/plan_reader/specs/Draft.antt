-- What lines have said so far, line by line: the way in which a reader keeps the statements of a plan.
use Rattle.std.specs.Prelude.{ℕ, false, ◌≡◌, ◌≤◌, ◌<◌, List, [], ◌∷◌, ◌++◌, length, All, Option, Some, None, IfSome, Result, Ok}
use Rattle.std.specs.List.{list_any}
use Rattle.text_words.specs.Lines.{LineView}
use Rattle.text_words.specs.Reading.{◌>>=◌, at_line}
use Rattle.plan_reader.specs.Messages.{fault_at}
use Rattle.plan_reader.specs.Plan.{Said, body_of, plan_said, statement_at, whole}
use Rattle.plan_reader.specs.PlanView.{IsJoinLast, IsStage, PlanView, is_joining}
use Rattle.plan_reader.specs.declared.error.PlanError.{PlanError}
use Rattle.plan_reader.specs.Limits.{max_hold, max_mark, max_stages, min_hold}
use Rattle.plan_reader.specs.declared.statement.Statement.{Statement}
use Rattle.plan_reader.specs.declared.statement.Statement.TheVariants as says

-- nothing was said
abbrev pub nothing_said : Said
nothing_said = record { mark = None; hold = None; stages = [] }

-- a number, unless one was said before
abbrev pub first_said : Option ℕ → ℕ → Option ℕ
first_said None n = Some n
first_said (Some before) n = Some before

-- what was said, with a further statement
abbrev pub said_with : Said → Statement → Said
said_with said (says.Mark n) = record { mark = first_said said.mark n; hold = said.hold; stages = said.stages }
said_with said (says.Hold n) = record { mark = said.mark; hold = first_said said.hold n; stages = said.stages }
said_with said (says.Stage stage) = record { mark = said.mark; hold = said.hold; stages = said.stages ++ stage ∷ [] }

-- the same with a further line
unfoldable pub said_with_line : Said → LineView → Result Said PlanError
said_with_line said line = do
  next ← at_line fault_at line.number (statement_at said line.words)
  Ok (said_with said next)

-- the same with further lines
unfoldable pub said_after : Said → List LineView → Result Said PlanError
said_after said [] = Ok said
said_after said (line ∷ lines) = do
  more ← said_with_line said line
  said_after more lines

-- the plan that counting lines say
unfoldable pub drafted_plan : List LineView → Result PlanView PlanError
drafted_plan lines = do
  body ← body_of lines
  said ← said_after nothing_said body.1
  whole (plan_said body.0 said)

-- ---- limits

-- a number of rows to a mark that a plan may set
abbrev pub IsMark : ℕ → Type 0
IsMark n = (1 ≤ n) × (n ≤ max_mark)

-- a number of items that an edge of ingress may be allowed to hold
abbrev pub IsHold : ℕ → Type 0
IsHold n = (min_hold ≤ n) × (n ≤ max_hold)

-- what was said is within the limits
pub record IsDraft (said : Said) : Type 0 where
  pub mark : IfSome said.mark IsMark
  pub hold : IfSome said.hold IsHold
  pub few : length said.stages ≤ max_stages
  pub stages : All IsStage said.stages
  pub join_last : IsJoinLast said.stages

-- a statement may follow what was said
abbrev pub MayFollow : Said → Statement → Type 0
MayFollow said (says.Mark n) = (said.mark ≡ None) × IsMark n
MayFollow said (says.Hold n) = (said.hold ≡ None) × IsHold n
MayFollow said (says.Stage stage) = (length said.stages < max_stages) × (list_any is_joining said.stages ≡ false) × IsStage stage
