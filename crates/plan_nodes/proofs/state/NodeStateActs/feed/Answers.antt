use Rattle.std.proofs.Common.{◌++◌, ◌∷◌, [], List, subst, sym}
use Rattle.std.specs.Prelude.{IfOk, IsTrue}
use Rattle.tuple_edge.specs.Input.{Input}
use Rattle.node_tasks.specs.Coming.{HaveCome}
use Rattle.plan_nodes.specs.States.{Admits, StandsFor}
use Rattle.plan_nodes.specs.declared.state.NodeState.{NodeState}
use Rattle.plan_nodes.specs.declared.state.NodeState.TheVariants as state
use Rattle.plan_nodes.proofs.state.NodeStateActs.feed.Goals as goal

pub returns-in-Ingress-clause-came : goal.returns-in-Ingress-clause-came
returns-in-Ingress-clause-came c =
    subst (λ (s : NodeState). IfOk c.ingress_feeds.result (λ taken. IsTrue taken → (before : List Input) → HaveCome Admits s before → HaveCome Admits (state.Ingress c.ingress_feeds.new.node) (before ++ c.args.input ∷ [])))
    (sym c.in-Ingress.is) c.ingress_feeds.ensures.came

pub returns-in-Ingress-clause-stands : goal.returns-in-Ingress-clause-stands
returns-in-Ingress-clause-stands c = λ plan inputs x may h. c.ingress_feeds.ensures.stands plan inputs x may (subst (λ (s : NodeState). StandsFor plan inputs s x) c.in-Ingress.is h)
