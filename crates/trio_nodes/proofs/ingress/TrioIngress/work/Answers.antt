use Rattle.std.proofs.Common.{◌∙◌, [], ap, sym}
use Rattle.std.proofs.lemmas.List.{append-nil}
use Rattle.ingress_egress.proofs.EgressSteps.{either}
use Rattle.trio_machine.specs.declared.node.TrioNode.TheVariants as node
use Rattle.trio_nodes.specs.IngressView.{working}
use Rattle.trio_nodes.specs.Outbox.{TrioOutboxView}
use Rattle.trio_nodes.proofs.EgressSteps.{sent_linked}
use Rattle.trio_nodes.proofs.IngressSteps.{work_done, work_inputs, works_linked}
use Rattle.trio_nodes.proofs.ingress.TrioIngress.work.Goals as goal

pub returns-clause-linked : goal.returns-clause-linked
returns-clause-linked c = either c.send.result _ _ _
    (λ e plan is. sent_linked plan node.Ingress c.args.out.now.packets c.send.new.out.packets (working c.args.self.now).sent e (works_linked plan c.args.self.now is c.send.ensures.ingress))
    (λ u plan is. sent_linked plan node.Ingress c.args.out.now.packets c.send.new.out.packets [] (ap (λ (o : TrioOutboxView). o.packets) u.1 ∙ sym (append-nil c.args.out.now.packets)) tt)
    c.send.ensures.packets c.send.ensures.unchanged

pub returns-clause-step : goal.returns-clause-step
returns-clause-step c = work_done c.send.result c.args.self.now c.send.new.self c.send.ensures.worked c.send.ensures.after

pub returns-clause-inputs : goal.returns-clause-inputs
returns-clause-inputs c = work_inputs c.send.result c.args.self.now c.send.new.self _ c.send.ensures.after c.send.ensures.unchanged
