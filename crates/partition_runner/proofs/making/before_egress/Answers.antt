use Rattle.std.proofs.Common.{false, ◌≡◌, ◌∙◌, ◌∷◌, ◌++◌, [], List, true, drop, take, ap, subst, sym}
use Rattle.std.specs.Prelude.{◌≢◌}
use Rattle.tuple_edge.specs.declared.node.NodeId.{NodeId}
use Rattle.tuple_edge.specs.declared.node.NodeId.TheVariants as node
use Rattle.plan_reader.specs.Nodes.{has_node}
use Rattle.pair_machine.specs.Lists.{Each}
use Rattle.pair_machine.proofs.Lists.{each_left}
use Rattle.plan_nodes.specs.States.{id_of}
use Rattle.plan_nodes.specs.NodeOrder.{nodes_before_egress}
use Rattle.plan_nodes.proofs.NodeOrder.{nodes_there}
use Rattle.run_node.specs.NodeView.{NodeName}
use Rattle.partition_runner.specs.Drafts.{unlinked}
use Rattle.partition_runner.proofs.Unlinked.{others_apart}
use Rattle.partition_runner.proofs.making.before_egress.Goals as goal

pub add_others-requires-clause-there : goal.add_others-requires-clause-there
add_others-requires-clause-there g c κs within =
    subst (Each (λ (n : NodeId). has_node c.args.plan.now n ≡ true)) (sym (c.deref.ensures.value ∙ c.in_ok-ids.ensures))
    (each_left (λ (n : NodeId). has_node c.args.plan.now n ≡ true) (nodes_before_egress c.args.plan.now) (node.Egress ∷ []) (nodes_there c.args.plan.now))

pub add_others-requires-clause-others : goal.add_others-requires-clause-others
add_others-requires-clause-others g c κs within =
    subst (λ (ids : List NodeId). Each (λ (n : NodeId). n ≢ node.Ingress) (drop 1 ids)) (sym (c.deref.ensures.value ∙ c.in_ok-ids.ensures)) (others_apart c.args.plan.now)

pub add_others-requires-clause-first : goal.add_others-requires-clause-first
add_others-requires-clause-first g c κs within =
    let made : c.add_draft.new.drafts.items ≡ record { id = id_of c.args.ingress; ins = []; outs = []; tapped = false } ∷ [] =
    c.in_ok-add_draft.ensures ∙ ap (λ (drafts : List NodeName). drafts ++ record { id = id_of c.args.ingress; ins = []; outs = []; tapped = false } ∷ []) c.in_ok-drafts.ensures.items in
    made ∙ (ap (λ (n : NodeId). unlinked (n ∷ [])) c.requires.ingress.0 ∙ ap (λ (ids : List NodeId). unlinked (take 1 ids)) (sym (c.deref.ensures.value ∙ c.in_ok-ids.ensures)))
