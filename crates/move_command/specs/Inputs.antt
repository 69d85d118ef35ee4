-- What a file of moves says for a plan, or the line by which it is refused.
use Rattle.std.specs.Prelude.{ℕ, List, codes}
use Rattle.plan_reader.specs.PlanView.{PlanView}
use Rattle.bucket_move.specs.Messages.{moves_fault}
use Rattle.bucket_move.specs.Moves.{moves_of}
use Rattle.bucket_move.specs.declared.moves.Shift.{Shift}
use Rattle.command_course.specs.Course.{Reading}
use Rattle.command_course.specs.Lines.{line_of, or_line}

-- the moves of a file with these bytes, for a plan
abbrev pub moves_from : PlanView → List ℕ → List ℕ → Reading (List Shift)
moves_from plan name bytes = or_line moves_fault name (moves_of plan bytes)

-- what is said of a plan that isn't by key
abbrev pub not_by_key_line : List ℕ → List ℕ
not_by_key_line name = line_of name (codes "not by key")
