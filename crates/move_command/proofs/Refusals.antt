-- Why moves are refused.
use Rattle.std.proofs.Common.{ℕ, ◌≡◌, ◌<◌, true, List, length, refl, ap, Err, Result, arith}
use Rattle.std.specs.Prelude.{◌≢◌, nat_lt}
use Rattle.std.proofs.lemmas.Bool.Decides.{nat_tests}
use Rattle.plan_reader.specs.PlanView.{PlanView}
use Rattle.bucket_move.specs.Limits.{max_moves_bytes}
use Rattle.bucket_move.specs.Messages.{moves_fault}
use Rattle.bucket_move.specs.Moves.{Fails, moves_of}
use Rattle.bucket_move.specs.declared.error.MovesError.{MovesError}
use Rattle.bucket_move.specs.declared.error.MovesError.TheVariants as error
use Rattle.bucket_move.specs.declared.moves.Shift.{Shift}
use Rattle.command_course.specs.Lines.{line_of}
use Rattle.command_course.specs.Steps.{IsRefusedBy, StopsOn}
use Rattle.command_course.specs.declared.stop.Stop.{Stop}
use Rattle.command_course.proofs.Refusals.{line_refused}
use Rattle.move_command.specs.Inputs.{moves_from}

moves_fail : (e : MovesError) (read : Result (List Shift) MovesError) → Fails e read → e ≢ error.OutOfMemory → read ≡ Err e
moves_fail error.OutOfMemory read fails known = absurd (known refl)
moves_fail _ read fails known = fails

pub moves_refused : (plan : PlanView) (name bytes : List ℕ) (e : MovesError) (why : Stop) → Fails e (moves_of plan bytes) → e ≢ error.OutOfMemory → IsRefusedBy why (line_of name (moves_fault e)) (Unit {0})
    → StopsOn (moves_from plan name bytes) why
moves_refused plan name bytes e why fails known by =
    line_refused moves_fault name (moves_of plan bytes) e why (moves_fail e (moves_of plan bytes) fails known) by

moves_too_long : (plan : PlanView) (bytes : List ℕ) → max_moves_bytes < length bytes → moves_of plan bytes ≡ Err (error.TooLong (length bytes))
unfolding moves_of
moves_too_long plan bytes long = let e : nat_lt max_moves_bytes (length bytes) ≡ true = grind (arith, nat_tests) in rw e refl

pub long_moves : (plan : PlanView) (name bytes : List ℕ) (seen : ℕ) (why : Stop) → max_moves_bytes < length bytes → IsRefusedBy why (line_of name (moves_fault (error.TooLong seen))) (Unit {0})
    → StopsOn (moves_from plan name bytes) why
long_moves plan name bytes seen why long by =
    line_refused moves_fault name (moves_of plan bytes) (error.TooLong (length bytes)) why (moves_too_long plan bytes long) by
