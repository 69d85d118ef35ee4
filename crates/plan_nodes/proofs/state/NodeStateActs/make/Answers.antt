use Rattle.std.proofs.Common.{List, subst, sym}
use Rattle.std.specs.Prelude.{◌↔◌, OnErr}
use Rattle.tuple_edge.specs.Input.{Input}
use Rattle.plan_nodes.specs.States.{Admits, StandsLike}
use Rattle.plan_nodes.specs.declared.state.NodeState.{NodeState}
use Rattle.plan_nodes.specs.declared.state.NodeState.TheVariants as state
use Rattle.plan_nodes.proofs.state.NodeStateActs.make.Goals as goal

pub returns-in-Ingress-clause-unchanged : goal.returns-in-Ingress-clause-unchanged
returns-in-Ingress-clause-unchanged c =
    subst (λ (s : NodeState). OnErr c.ingress_makes.result (StandsLike s (state.Ingress c.ingress_makes.new.node)))
    (sym c.in-Ingress.is) c.ingress_makes.ensures.unchanged

pub returns-in-Ingress-clause-inputs : goal.returns-in-Ingress-clause-inputs
returns-in-Ingress-clause-inputs c =
    subst (λ (s : NodeState). (inputs : List Input) → Admits (state.Ingress c.ingress_makes.new.node) inputs ↔ Admits s inputs) (sym c.in-Ingress.is) c.ingress_makes.ensures.inputs
