use Rattle.std.proofs.Common.{◌≡◌, ◌++◌, drop}
use Rattle.reach_text.specs.Trace.{asked_in, at_in, lines_at}
use Rattle.reach_text.proofs.rows.push_lines.Given as goal

abbrev pub invariant-loop-x : goal.invariant-loop-x
invariant-loop-x l = l.text.items ++ lines_at (asked_in l.question) (at_in l.at) (drop l.x-index l.told) ≡ l.initial.text.items ++ lines_at (asked_in l.question) (at_in l.at) l.told
