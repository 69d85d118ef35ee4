-- The order of nodes is total, and nodes that it does not tell apart are the same: the laws that the impl of `Ord` owes.
use Rattle.std.specs.Prelude.{◌≡◌, refl}
use Rattle.std.proofs.Common.{rules}
use Rattle.std.specs.Cmp.{IsTotalOrder, nat_cmp_total, on_total, then_total}
use Rattle.std.specs.Cmp.Rules.{comparing}
use Rattle.std.specs.Ordering.{eq_by_cmp}
use Rattle.tuple_edge.specs.declared.node.Which.TheVariants as which
use Rattle.tuple_edge.specs.declared.node.NodeId.{NodeId}
use Rattle.tuple_edge.specs.declared.node.NodeId.TheVariants as node
use Rattle.tuple_edge.specs.Node.{node_cmp, group_of, stage_of, part_of, rank_of}
use Rattle.tuple_edge.specs.contracts.node.NodeIdPartialEq.TheImpl as equal

-- the order of nodes is total
pub node_total : IsTotalOrder node_cmp
node_total = then_total (on_total group_of nat_cmp_total) (then_total (on_total stage_of nat_cmp_total) (then_total (on_total part_of nat_cmp_total) (on_total rank_of nat_cmp_total)))

-- nodes are equal just where neither comes before the other
pub node_ties : (x y : NodeId) → equal.ghosts.eq x y ≡ eq_by_cmp node_cmp x y
node_ties node.Ingress node.Ingress = refl
node_ties node.Ingress (node.Replica t q v) = refl
node_ties node.Ingress (node.Control t q) = refl
node_ties node.Ingress node.Egress = refl
node_ties (node.Replica s p w) node.Ingress = refl
node_ties (node.Replica s p which.A) (node.Replica t q which.A) = search (comparing, rules)
node_ties (node.Replica s p which.A) (node.Replica t q which.B) = search (comparing, rules)
node_ties (node.Replica s p which.B) (node.Replica t q which.A) = search (comparing, rules)
node_ties (node.Replica s p which.B) (node.Replica t q which.B) = search (comparing, rules)
node_ties (node.Replica s p which.A) (node.Control t q) = search (comparing, rules)
node_ties (node.Replica s p which.B) (node.Control t q) = search (comparing, rules)
node_ties (node.Replica s p w) node.Egress = refl
node_ties (node.Control s p) node.Ingress = refl
node_ties (node.Control s p) (node.Replica t q which.A) = search (comparing, rules)
node_ties (node.Control s p) (node.Replica t q which.B) = search (comparing, rules)
node_ties (node.Control s p) (node.Control t q) = search (comparing, rules)
node_ties (node.Control s p) node.Egress = refl
node_ties node.Egress node.Ingress = refl
node_ties node.Egress (node.Replica t q v) = refl
node_ties node.Egress (node.Control t q) = refl
node_ties node.Egress node.Egress = refl
