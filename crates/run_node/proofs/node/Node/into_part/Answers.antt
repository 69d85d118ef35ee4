use Rattle.std.proofs.Common.{◌∙◌, ap, subst, sym}
use Rattle.pair_machine.specs.Joint.{AreRising}
use Rattle.run_node.specs.NodeView.{NodeView}
use Rattle.run_node.specs.SoundNode.{IsTrueView}
use Rattle.run_node.proofs.node.Node.into_part.Goals as goal

pub returns-clause-course : goal.returns-clause-course
returns-clause-course g c = λ inputs may timely.
    subst (IsTrueView g.A.Acts.id g.A.Acts.stands g.N.RunNames.plan inputs g.N.RunNames.script) c.self.view_is
    (c.self.invariant.sound inputs (subst (λ (v : NodeView _ _). g.A.Acts.admits v.state inputs) (sym c.self.view_is) may) timely).course

pub returns-clause-rising : goal.returns-clause-rising
returns-clause-rising g c = λ inputs may timely.
    subst (λ (v : NodeView _ _). AreRising v.history) c.self.view_is
    (c.self.invariant.sound inputs (subst (λ (v : NodeView _ _). g.A.Acts.admits v.state inputs) (sym c.self.view_is) may) timely).rises

pub returns-clause-node : goal.returns-clause-node
returns-clause-node g c = c.self.invariant.own ∙ ap (λ (v : NodeView _ _). g.A.Acts.id v.state) c.self.view_is
