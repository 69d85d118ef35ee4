use Rattle.std.proofs.Common.{◌≡◌, ◌++◌, drop}
use Rattle.lane_chart.specs.Places.{placed}
use Rattle.run_timeline.specs.Nodes.{stage_replicas}
use Rattle.run_timeline.proofs.nodes.replicas_of.Given as goal

abbrev pub invariant-loop-place : goal.invariant-loop-place
invariant-loop-place l = l.nodes.items ++ placed stage_replicas l.place (drop l.place l.stages) ≡ placed stage_replicas 0 l.stages
