use Rattle.std.proofs.Common.{◌≡◌, ◌∙◌, ◌-◌, ◌+◌, Some, ap, arith, slice_get, subst, sym, true}
use Rattle.tuple_edge.specs.declared.node.NodeId.TheVariants as node
use Rattle.plan_reader.specs.Nodes.{has_node}
use Rattle.plan_nodes.specs.NodeOrder.{nodes_of}
use Rattle.flux_core.proofs.InOrder.{egress_placed, pair_placed}
use Rattle.flux_core.proofs.places.place_of.Goals as goal

pub returns-in-A : goal.returns-in-A
returns-in-A c = pair_placed c.args.plan.now c.in-Replica.stage c.in-Replica.part (subst (λ k. has_node c.args.plan.now k ≡ true) c.in-Replica.is c.requires.there) c.pair_place-first.result 0 c.args.node
    (omega (arith, c.pair_place-first.ensures.value)) (omega arith) (ap Some (sym (c.in-Replica.is ∙ ap (node.Replica c.in-Replica.stage c.in-Replica.part) c.in-A.is)))

pub returns-in-B : goal.returns-in-B
returns-in-B c = pair_placed c.args.plan.now c.in-Replica.stage c.in-Replica.part (subst (λ k. has_node c.args.plan.now k ≡ true) c.in-Replica.is c.requires.there) (c.pair_place-first.result + 1) 1 c.args.node
    (omega (arith, c.pair_place-first.ensures.value)) (omega arith) (ap Some (sym (c.in-Replica.is ∙ ap (node.Replica c.in-Replica.stage c.in-Replica.part) c.in-B.is)))

pub returns-in-Control : goal.returns-in-Control
returns-in-Control c = pair_placed c.args.plan.now c.in-Control.stage c.in-Control.part (subst (λ k. has_node c.args.plan.now k ≡ true) c.in-Control.is c.requires.there) (c.pair_place.result + 2) 2 c.args.node
    (omega (arith, c.pair_place.ensures.value)) (omega arith) (ap Some (sym c.in-Control.is))

pub returns-in-Egress : goal.returns-in-Egress
returns-in-Egress c = subst (λ k. slice_get (nodes_of c.args.plan.now) (c.args.count - 1) ≡ Some k) (sym c.in-Egress.is) (egress_placed c.args.plan.now c.args.count c.requires.count)
