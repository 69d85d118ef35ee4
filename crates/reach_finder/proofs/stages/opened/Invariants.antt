use Rattle.std.proofs.Common.{◌≡◌, [], length}
use Rattle.reach_finder.specs.Traced.{PartsSaw}
use Rattle.reach_finder.proofs.stages.opened.Given as goal

abbrev pub invariant-loop-part : goal.invariant-loop-part
invariant-loop-part l = record {
  parts : length l.tracers.items ≡ l._part;
  saw : PartsSaw l.stage 0 l.tracers.items [];
}
