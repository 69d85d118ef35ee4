use Rattle.std.proofs.Common.{◌≡◌, length}
use Rattle.std.specs.Prelude.{All}
use Rattle.bucket_move.specs.Moves.{shifts_after}
use Rattle.bucket_move.specs.Shifts.{DontFall, IsShiftOf}
use Rattle.bucket_move.proofs.read.take_all.Given as goal

abbrev pub invariant-loop-line : goal.invariant-loop-line
invariant-loop-line l = record {
  value : shifts_after l.plan l.moves l.lines ≡ shifts_after l.plan l.initial.moves l.initial.lines;
  of_plan : All (IsShiftOf l.plan) l.moves;
  in_order : DontFall 0 l.moves;
}

abbrev pub decreases-loop-line : goal.decreases-loop-line
decreases-loop-line l = length l.lines
