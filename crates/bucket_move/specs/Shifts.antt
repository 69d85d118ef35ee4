-- The moves of buckets that a text asks for.
use Rattle.std.specs.Prelude.{ℕ, ◌≡◌, ◌<◌, ◌≤◌, ◌-◌, ◌%◌, List, [], ◌∷◌, length, slice_get, unwrap_or}
use Rattle.std.specs.Option.{option_map}
use Rattle.plan_reader.specs.PlanView.{PlanView}
use Rattle.bucket_move.specs.Grammar.{parts_of}
use Rattle.bucket_move.specs.Limits.{buckets, max_stamp}
use Rattle.bucket_move.specs.declared.moves.Shift.{Shift}

-- the stamp of the last of some moves; of none it is 0
abbrev pub last_at : List Shift → ℕ
last_at shifts = unwrap_or (option_map (λ s. s.at) (slice_get shifts (length shifts - 1))) 0

-- no move is made sooner than the one before it, nor the first of them sooner than this
abbrev pub DontFall : ℕ → List Shift → Type 0
DontFall least [] = Unit {0}
DontFall least (s ∷ shifts) = (least ≤ s.at) × DontFall s.at shifts

-- a move within its limits: at a mark of the plan, of a bucket, to a partition
pub record IsShiftOf (plan : PlanView) (s : Shift) : Type 0 where
  pub some : 1 ≤ s.at
  pub few : s.at ≤ max_stamp
  pub at_mark : s.at % plan.mark ≡ 0
  pub bucket : s.bucket < buckets
  pub to : s.to < parts_of plan.stages
