use Rattle.std.proofs.Common.{drop}
use Rattle.flux_core.proofs.Following.{Along}
use Rattle.flux_core.specs.Stands.{IsCore}
use Rattle.flux_core.proofs.apply.Core.follow.Given as goal

abbrev pub invariant-loop-lined : goal.invariant-loop-lined
invariant-loop-lined l = record {
  along : Along l.fn.self l.self (drop l.lined-index l.fn.events) l.fn.events;
  core : IsCore l.self;
}
