use Rattle.std.proofs.Common.{◌≡◌, drop}
use Rattle.input_faults.proofs.lines.joins.Given as goal

abbrev pub invariant-loop-turn : goal.invariant-loop-turn
invariant-loop-turn l = l.words ≡ drop l._turn l.initial.words
