use Rattle.std.proofs.Common.{◌≡◌, ◌+◌, ◌++◌, drop}
use Rattle.lane_chart.specs.Runs.{runs, runs_after}
use Rattle.lane_chart.proofs.runs.runs.Given as goal

abbrev pub invariant-loop-place : goal.invariant-loop-place
invariant-loop-place l = l.runs.items ++ runs_after l.kind l.start (l.place + 1) (drop l.place l.rest) ≡ runs l.fn.cells
