use Rattle.std.proofs.Common.{refl}
use Rattle.plan_nodes.specs.declared.state.NodeState.TheVariants as state
use Rattle.flux_core.proofs.NodeActs.{egress_pulled, has_pulled}
use Rattle.flux_core.proofs.acts.egress_pulls.Goals as goal

pub returns : goal.returns
returns c = has_pulled (state.Egress c.args.node.now) (state.Egress c.pull.new.self) c.args.edge c.args.item
    (λ plan. egress_pulled plan c.args.node.now c.pull.new.self c.args.edge c.args.item (λ rows n. c.in_ok-pull.ensures.stands plan rows n)) refl refl refl c.pull.ensures.gone
