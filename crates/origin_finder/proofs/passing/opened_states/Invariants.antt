use Rattle.std.proofs.Common.{◌≡◌, [], length}
use Rattle.evaluation.specs.StageRows.{PartsTook}
use Rattle.origin_finder.proofs.passing.opened_states.Given as goal

abbrev pub invariant-loop-part : goal.invariant-loop-part
invariant-loop-part l = record {
  parts : length l.states.items ≡ l._part;
  took : PartsTook l.stage 0 l.states.items [];
}
