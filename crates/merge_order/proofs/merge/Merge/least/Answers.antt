use Rattle.std.proofs.Common.{◌≡◌, ◌≤◌, ◌∙◌, List, Option, ap, length, subst, sym}
use Rattle.std.specs.Prelude.{IfSome, is_some}
use Rattle.tuple_edge.specs.declared.item.Item.{Item}
use Rattle.merge_order.specs.declared.head.Head.{Head}
use Rattle.merge_order.specs.MergeView.{ComesFirst, MergeView, item_of, least}
use Rattle.merge_order.proofs.Heads.{comes_first, found_is}
use Rattle.merge_order.proofs.RunLaw.{all_given}
use Rattle.merge_order.proofs.merge.Merge.least.Goals as goal

waiting_is : (c : goal.After-least) → c.self.inside.waiting ≡ c.args.self.now.waiting
waiting_is c = ap (λ (v : MergeView). v.waiting) c.self.view_is

least_found : (c : goal.After-least) → c.least.result ≡ least c.args.self.now.waiting
least_found c = c.least.ensures ∙ ap least (waiting_is c)

pub returns-clause-known : goal.returns-clause-known
returns-clause-known c =
    let some : 1 ≤ length c.args.self.now.waiting = subst (λ (ws : List (List Item)). 1 ≤ length ws) (waiting_is c) c.self.invariant.0 in
    let same = ap is_some (least_found c) ∙ found_is c.args.self.now.waiting some in
    (λ there. sym same ∙ there, λ wait. same ∙ wait)

pub returns-clause-first : goal.returns-clause-first
returns-clause-first c = subst (λ (o : Option Head). IfSome o (ComesFirst c.args.self.now.waiting)) (sym (least_found c)) (comes_first c.args.self.now.waiting)

pub returns-clause-whole : goal.returns-clause-whole
returns-clause-whole c last es edges s taken none = all_given last es c.args.self.now edges s taken (ap item_of (sym (least_found c) ∙ none))
