use Rattle.std.proofs.Common.{◌≡◌, Some, subst}
use Rattle.tuple_edge.specs.declared.node.NodeId.TheVariants as node
use Rattle.plan_nodes.specs.States.{contents_of}
use Rattle.plan_nodes.specs.declared.state.NodeState.{NodeState}
use Rattle.flux_core.specs.CoreView.{station}
use Rattle.flux_core.proofs.Noting.{content_read}
use Rattle.flux_core.proofs.Placed.{controller_edges}
use Rattle.flux_core.proofs.nodes.Core.control.Goals as goal

pub returns-clause-edges : goal.returns-clause-edges
returns-clause-edges g c =
    let n = node.Control c.args.stage c.args.part in
    controller_edges c.args.self.now c.known.ensures c.args.stage c.args.part c.in-Control.control c.requires
    (subst (λ (s : NodeState). Some (contents_of s) ≡ (station c.args.self.now n).content) c.in-Control.is
    (content_read c.args.self.now n c.station.result.now c.behind-self.inside.node c.behind-self.inside.sent c.station.ensures.value c.behind-self.view_is))
