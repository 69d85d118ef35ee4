use Rattle.std.proofs.Common.{◌≡◌, ◌++◌, [], drop, length, take}
use Rattle.reach_finder.specs.Traced.{PartsSaw, traced_early}
use Rattle.reach_finder.proofs.stages.early_answers.Given as goal

abbrev pub invariant-loop-x : goal.invariant-loop-x
invariant-loop-x l = record {
  parts : length l.tracers ≡ l.stage.parts;
  saw : PartsSaw l.stage 0 l.initial.tracers [] → PartsSaw l.stage 0 l.tracers (take l.x-index l.rows);
  answers : PartsSaw l.stage 0 l.initial.tracers []
      → traced_early l.stage [] l.rows ≡ l.out.items ++ traced_early l.stage (take l.x-index l.rows) (drop l.x-index l.rows);
}
