use Rattle.std.proofs.Common.{◌≡◌, ◌++◌, ◌-◌, List, drop, length}
use Rattle.reach_finder.specs.Traced.{PartsSaw, traced_late}
use Rattle.reach_finder.specs.declared.shades.Traced.{Traced}
use Rattle.reach_finder.proofs.stages.late_answers.Given as goal

abbrev pub invariant-loop-tracer : goal.invariant-loop-tracer
invariant-loop-tracer l = record {
  part : l.part ≡ l.tracer-index;
  parts : length l.tracers ≡ l.stage.parts;
  saw : (early : List Traced) → PartsSaw l.stage 0 l.initial.tracers early → PartsSaw l.stage l.tracer-index (drop l.tracer-index l.tracers) early;
  answers : (early : List Traced) → PartsSaw l.stage 0 l.initial.tracers early
      → traced_late l.stage early l.rows 0 l.stage.parts ≡ l.out.items ++ traced_late l.stage early l.rows l.tracer-index (l.stage.parts - l.tracer-index);
}
