use Rattle.std.proofs.Common.{◌<◌, Option, length, subst, sym}
use Rattle.std.specs.Prelude.{OnSome, sum_by}
use Rattle.merge_order.specs.declared.head.Head.{Head}
use Rattle.merge_order.specs.MergeView.{MergeView, after_next, item_of}
use Rattle.merge_order.specs.StandsFor.{StandsFor}
use Rattle.merge_order.proofs.Fewer.{next_fewer}
use Rattle.merge_order.proofs.Standing.{StandsAt, next_in_order, next_stands}
use Rattle.merge_order.proofs.merge.Merge.pass.Goals as goal

pub returns-clause-fewer : goal.returns-clause-fewer
returns-clause-fewer c =
    let m = c.args.self.now in
    let Fewer : MergeView → Type 0 = λ after. sum_by length after.waiting < sum_by length m.waiting in
    let fewer : Fewer (after_next m) = subst (λ (o : Option Head). OnSome (item_of o) (Fewer (after_next m))) c.requires.next (next_fewer m) in
    subst Fewer (sym c.take_head.ensures) fewer

pub returns-clause-stands : goal.returns-clause-stands
returns-clause-stands c last es edges s = subst (StandsFor last es) (sym c.take_head.ensures) (next_stands last es c.args.self.now edges s)

pub returns-clause-in_order : goal.returns-clause-in_order
returns-clause-in_order c last es edges s =
    subst (λ (o : Option Head). StandsAt last es c.args.self.now.count (item_of o)) c.requires.next (next_in_order last es c.args.self.now edges s)
