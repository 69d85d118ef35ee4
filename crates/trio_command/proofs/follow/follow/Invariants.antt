use Rattle.std.proofs.Common.{drop}
use Rattle.trio_core.specs.Stands.{IsCore}
use Rattle.trio_command.proofs.Following.{Left}
use Rattle.trio_command.proofs.follow.follow.Given as goal

abbrev pub invariant-loop-lined : goal.invariant-loop-lined
invariant-loop-lined l = record {
  left : Left l.fn.core l.core (drop l.lined-index l.fn.events) l.fn.events;
  core : IsCore l.core;
}
