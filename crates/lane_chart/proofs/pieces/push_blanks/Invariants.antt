use Rattle.std.proofs.Common.{◌≡◌, ◌++◌}
use Rattle.std.specs.Prelude.{string_bytes}
use Rattle.lane_chart.specs.Text.{blanks}
use Rattle.lane_chart.proofs.pieces.push_blanks.Given as goal

abbrev pub invariant-loop-blank : goal.invariant-loop-blank
invariant-loop-blank l = string_bytes l.text ≡ string_bytes l.initial.text ++ blanks l.blank
