use Rattle.std.proofs.Common.{Option, sym, subst}
use Rattle.std.specs.Option.{IfSome}
use Rattle.keyed_store.specs.Join.{IsShort}
use Rattle.keyed_store.specs.declared.rows.Sides.{Sides}
use Rattle.keyed_store.proofs.join.in_key_before.Goals as goal

pub next_in-requires : goal.next_in-requires
next_in-requires c = subst (λ (o : Option Sides). IfSome o IsShort) (sym c.in-Some.ensures.value) (c.requires c.args.key.now)
