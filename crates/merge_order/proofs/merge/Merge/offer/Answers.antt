use Rattle.std.proofs.Common.{Result, Ok, Err, sym, subst}
use Rattle.std.specs.Prelude.{OnOk}
use Rattle.merge_order.specs.StandsFor.{StandsFor}
use Rattle.merge_order.proofs.Standing.{offer_stands}
use Rattle.merge_order.proofs.merge.Merge.offer.Goals as goal

then : {A E : Type 0} {P Q : Type 0} → (r : Result A E) → (P → Q) → OnOk r P → OnOk r Q
then (Ok x) f p = f p
then (Err e) f p = tt

pub returns-clause-stands : goal.returns-clause-stands
returns-clause-stands c =
    then c.take_offered.result (λ taken last es s item_is. subst (StandsFor last es) (sym taken) (offer_stands last es c.args.self.now c.args.edge c.args.number c.args.item s c.requires item_is)) c.take_offered.ensures.taken
