use Rattle.std.proofs.Common.{sym, subst, ◌∙◌, ap}
use Rattle.std.specs.Prelude.{Bool, IsTrue, ◌↔◌}
use Rattle.merge_order.specs.MergeView.{MergeView, all_wait}
use Rattle.merge_order.specs.StandsFor.{AllBelow}
use Rattle.merge_order.proofs.Standing.{ready_is}
use Rattle.merge_order.proofs.merge.Merge.ready.Goals as goal

pub returns-clause-below : goal.returns-clause-below
returns-clause-below c last es s =
    let P : Bool → Type 0 = λ b. IsTrue b ↔ AllBelow last es c.args.self.now in
    subst P (sym (c.all_wait.ensures ∙ ap (λ (v : MergeView). all_wait v.waiting) c.self.view_is)) (ready_is last es c.args.self.now s)
