use Rattle.std.proofs.Common.{take}
use Rattle.flux_core.specs.Stands.{IsCore}
use Rattle.run_watch.specs.Seen.{HasSeen}
use Rattle.run_watch.specs.TraceView.{view_of}
use Rattle.run_watch.proofs.seeing.walk.Given as goal

abbrev pub invariant-loop-lined : goal.invariant-loop-lined
invariant-loop-lined l = record {
  seen : HasSeen l.fn.core l.core (view_of l.fn.trace) (view_of l.trace) (take l.lined-index l.fn.events);
  core : IsCore l.core;
}
