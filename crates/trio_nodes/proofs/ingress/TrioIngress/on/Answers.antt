use Rattle.std.proofs.Common.{◌∙◌, [], ap, subst, sym}
use Rattle.trio_machine.specs.declared.node.TrioNode.TheVariants as node
use Rattle.trio_nodes.specs.Ingress.{StandsFor}
use Rattle.trio_nodes.specs.IngressView.{IngressView}
use Rattle.trio_nodes.specs.Steps.{IsTaken}
use Rattle.trio_nodes.proofs.IngressSteps.{take_step, taking_inputs}
use Rattle.trio_nodes.proofs.ingress.TrioIngress.on.Goals as goal

pub returns-clause-step : goal.returns-clause-step
returns-clause-step c = λ plan inputs. subst (λ z. IsTaken plan inputs node.Ingress (StandsFor plan inputs c.args.self.now) (StandsFor plan inputs z) c.args.from c.args.body.now []) (sym c.take.ensures)
    (take_step plan inputs c.args.self.now c.args.from c.args.body.now c.requires.admitted)

pub returns-clause-inputs : goal.returns-clause-inputs
returns-clause-inputs c = ap (λ (i : IngressView). i.inputs) c.take.ensures ∙ taking_inputs c.args.self.now c.args.body.now
