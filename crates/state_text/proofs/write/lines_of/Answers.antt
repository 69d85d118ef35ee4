use Rattle.std.proofs.Common.{◌∙◌, ◌++◌, ap}
use Rattle.std.specs.List.{flat_map}
use Rattle.tuple_edge.specs.declared.node.NodeId.TheVariants as node
use Rattle.pair_machine.specs.Drain.{pairs_up_to}
use Rattle.pair_machine.specs.Machine.{egress_in, ingress_in}
use Rattle.flux_core.specs.CoreView.{flow_in}
use Rattle.plan_nodes.specs.NodeOrder.{nodes_in}
use Rattle.state_text.specs.StateText.{egress_text, ingress_text, pair_text, sent_by_text}
use Rattle.state_text.proofs.write.lines_of.Goals as goal

pub returns : goal.returns
returns c s stands =
    let f = flow_in c.args.core.now in
    c.in_ok-push_links.ensures s stands
    ∙ ap (λ t. t ++ flat_map (sent_by_text f s) (nodes_in f))
    (c.in_ok-push_egress_of.ensures s stands ∙ ap (λ t. t ++ egress_text f (egress_in (s.nodes node.Egress)))
    (c.in_ok-push_pairs.ensures s stands ∙ ap (λ t. t ++ flat_map (pair_text f s) (pairs_up_to f f.stages))
    (c.in_ok-push_ingress_of.ensures s stands ∙ ap (λ t. t ++ ingress_text f (ingress_in (s.nodes node.Ingress))) c.in_ok-text.ensures)))
