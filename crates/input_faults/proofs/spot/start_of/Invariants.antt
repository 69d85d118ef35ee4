use Rattle.std.proofs.Common.{◌≡◌, ◌≤◌, ◌+◌, ◌-◌, length}
use Rattle.input_faults.specs.Spots.{start_of}
use Rattle.input_faults.proofs.spot.start_of.Given as goal

abbrev pub invariant-loop-turn : goal.invariant-loop-turn
invariant-loop-turn l = record {
  start : start_of l.fn.before l.fn.line ≡ (length l.fn.line - length l.rest) + start_of (l.fn.before - l._turn) l.rest;
  within : length l.rest ≤ length l.fn.line;
}
