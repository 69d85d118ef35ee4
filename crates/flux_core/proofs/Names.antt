-- The order of nodes tells them apart.
use Rattle.std.specs.Prelude.{◌≡◌, refl}
use Rattle.std.proofs.Common.{rules}
use Rattle.std.specs.Cmp.Rules.{comparing}
use Rattle.std.specs.Ordering.{eq_by_cmp}
use Rattle.tuple_edge.specs.Node.{node_cmp}
use Rattle.tuple_edge.specs.declared.node.NodeId.{NodeId}
use Rattle.tuple_edge.specs.declared.node.NodeId.TheVariants as node
use Rattle.tuple_edge.specs.declared.node.Which.TheVariants as which
use Rattle.pair_machine.specs.Numbers.{is_node}

pub same_name : (x y : NodeId) → is_node x y ≡ eq_by_cmp node_cmp x y
same_name node.Ingress node.Ingress = refl
same_name node.Ingress (node.Replica t q v) = refl
same_name node.Ingress (node.Control t q) = refl
same_name node.Ingress node.Egress = refl
same_name (node.Replica s p w) node.Ingress = refl
same_name (node.Replica s p which.A) (node.Replica t q which.A) = search (comparing, rules)
same_name (node.Replica s p which.A) (node.Replica t q which.B) = search (comparing, rules)
same_name (node.Replica s p which.B) (node.Replica t q which.A) = search (comparing, rules)
same_name (node.Replica s p which.B) (node.Replica t q which.B) = search (comparing, rules)
same_name (node.Replica s p which.A) (node.Control t q) = search (comparing, rules)
same_name (node.Replica s p which.B) (node.Control t q) = search (comparing, rules)
same_name (node.Replica s p w) node.Egress = refl
same_name (node.Control s p) node.Ingress = refl
same_name (node.Control s p) (node.Replica t q which.A) = search (comparing, rules)
same_name (node.Control s p) (node.Replica t q which.B) = search (comparing, rules)
same_name (node.Control s p) (node.Control t q) = search (comparing, rules)
same_name (node.Control s p) node.Egress = refl
same_name node.Egress node.Ingress = refl
same_name node.Egress (node.Replica t q v) = refl
same_name node.Egress (node.Control t q) = refl
same_name node.Egress node.Egress = refl
