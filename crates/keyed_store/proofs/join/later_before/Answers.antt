use Rattle.std.proofs.Common.{Option, sym, subst}
use Rattle.keyed_store.specs.Join.{IsShortFirst}
use Rattle.keyed_store.specs.declared.rows.JoinKey.{JoinKey}
use Rattle.keyed_store.specs.declared.rows.Sides.{Sides}
use Rattle.keyed_store.proofs.join.later_before.Goals as goal

pub next_in-requires : goal.next_in-requires
next_in-requires c = subst (λ (o : Option (JoinKey × Sides)). IsShortFirst o) (sym c.in-Some.ensures) (c.requires c.bound_after.result)
