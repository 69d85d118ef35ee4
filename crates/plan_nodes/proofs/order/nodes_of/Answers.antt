use Rattle.std.proofs.Common.{◌≡◌, ◌∙◌, ◌++◌, ◌∷◌, [], ap, subst, sym, true}
use Rattle.std.specs.Prelude.{All}
use Rattle.tuple_edge.specs.declared.node.NodeId.TheVariants as node
use Rattle.plan_reader.specs.Nodes.{has_node}
use Rattle.plan_nodes.proofs.FlowOrder.{all_named, in_order}
use Rattle.plan_nodes.proofs.order.nodes_of.Goals as goal

pub returns-clause-machine : goal.returns-clause-machine
returns-clause-machine c = λ inputs. c.in_ok-push.ensures.items ∙ ap (λ l. l ++ node.Egress ∷ []) c.in_ok-ids.ensures ∙ in_order c.args.plan.now inputs

pub returns-clause-there : goal.returns-clause-there
returns-clause-there c = subst (All (λ n. has_node c.args.plan.now n ≡ true)) (sym (c.in_ok-push.ensures.items ∙ ap (λ l. l ++ node.Egress ∷ []) c.in_ok-ids.ensures)) (all_named c.args.plan.now)
