use Rattle.std.proofs.Common.{true, false, sym, ap, ◌∙◌}
use Rattle.failure_script.proofs.DueOrders.{back_ordered, kill_ordered, stop_ordered}
use Rattle.failure_script.specs.Orders.{is_back_due, is_due}
use Rattle.failure_script.proofs.script.Script.due_for.Goals as goal

pub returns-clause-may_stop : goal.returns-clause-may_stop
returns-clause-may_stop c =
    λ due. stop_ordered c.args.self.now c.args.node c.args.count (ap (is_due false c.args.count) (sym c.order_for-own.ensures) ∙ sym c.is_due.ensures ∙ due)

pub returns-clause-may_kill : goal.returns-clause-may_kill
returns-clause-may_kill c =
    λ due. kill_ordered c.args.self.now c.args.node c.args.count (ap (is_due true c.args.count) (sym c.order_for-own.ensures) ∙ sym c.is_due-2.ensures ∙ due)

pub returns-clause-may_return : goal.returns-clause-may_return
returns-clause-may_return c =
    λ due. back_ordered c.args.self.now c.args.node c.args.count (ap (is_back_due c.args.count) (sym c.order_for_partner-partners.ensures) ∙ sym c.is_back_due.ensures ∙ due)
