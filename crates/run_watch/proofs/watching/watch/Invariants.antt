use Rattle.std.proofs.Common.{◌-◌}
use Rattle.run_watch.specs.TraceView.{view_of}
use Rattle.run_watch.proofs.ByColumn.{HasCome}
use Rattle.run_watch.proofs.watching.watch.Given as goal

abbrev pub invariant-loop-column : goal.invariant-loop-column
invariant-loop-column l = HasCome l.fn.core l.core (view_of l.trace) l.fn.events l.start (l.many - l.column) l.fn.columns l.frames.items
