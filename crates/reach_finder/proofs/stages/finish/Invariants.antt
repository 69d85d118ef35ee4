use Rattle.std.proofs.Common.{List, drop}
use Rattle.reach_finder.specs.Traced.{HasSeen, traced_part}
use Rattle.reach_finder.specs.declared.shades.Traced.{Traced}
use Rattle.reach_finder.proofs.Tracing.{Stands}
use Rattle.reach_finder.proofs.stages.finish.Given as goal

abbrev pub invariant-loop-x : goal.invariant-loop-x
invariant-loop-x l = (before : List Traced) → HasSeen l.stage.op l.initial.tracer before
    → Stands l.stage l.part l.tracer (drop l.x-index l.rows) l.initial.out.items l.out.items (traced_part l.stage l.part before l.rows)
