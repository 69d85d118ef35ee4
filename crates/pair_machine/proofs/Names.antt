-- Names of nodes: the test of equality says what it should.
use Rattle.std.proofs.Common.{◌≡◌, true, ◌&&◌, refl}
use Rattle.std.specs.Prelude.{◌==◌}
use Rattle.std.proofs.lemmas.Bool.{eqb-true}
use Rattle.tuple_edge.specs.declared.node.NodeId.{NodeId}
use Rattle.tuple_edge.specs.declared.node.NodeId.TheVariants as node
use Rattle.tuple_edge.specs.declared.node.Which.{Which}
use Rattle.tuple_edge.specs.declared.node.Which.TheVariants.{A, B}
use Rattle.pair_machine.specs.Numbers.{is_node, is_which}
use Rattle.pair_machine.proofs.Tests.{both, nat_self}

pub which_self : (w : Which) → is_which w w ≡ true
which_self A = refl
which_self B = refl

pub node_self : (n : NodeId) → is_node n n ≡ true
node_self node.Ingress = refl
node_self (node.Replica s p w) = simp (nat_self, which_self)
node_self (node.Control s p) = simp nat_self
node_self node.Egress = refl

pub is_which-true : (w v : Which) → is_which w v ≡ true → w ≡ v
is_which-true A A e = refl
is_which-true A B e = cc
is_which-true B A e = cc
is_which-true B B e = refl

pub is_node-true : (m n : NodeId) → is_node m n ≡ true → m ≡ n
is_node-true node.Ingress node.Ingress e = refl
is_node-true node.Ingress (node.Replica s p w) e = cc
is_node-true node.Ingress (node.Control s p) e = cc
is_node-true node.Ingress node.Egress e = cc
is_node-true node.Egress node.Egress e = refl
is_node-true node.Egress (node.Replica s p w) e = cc
is_node-true node.Egress (node.Control s p) e = cc
is_node-true node.Egress node.Ingress e = cc
is_node-true (node.Control s p) node.Ingress e = cc
is_node-true (node.Control s p) node.Egress e = cc
is_node-true (node.Control s p) (node.Replica t q w) e = cc
is_node-true (node.Control s p) (node.Control t q) e = let z = both (s == t) (p == q) e in λ i. node.Control (eqb-true s t z.0 i) (eqb-true p q z.1 i)
is_node-true (node.Replica s p w) node.Ingress e = cc
is_node-true (node.Replica s p w) node.Egress e = cc
is_node-true (node.Replica s p w) (node.Control t q) e = cc
is_node-true (node.Replica s p w) (node.Replica t q v) e =
    let z = both ((s == t) && (p == q)) (is_which w v) e in
    let y = both (s == t) (p == q) z.0 in
    λ i. node.Replica (eqb-true s t y.0 i) (eqb-true p q y.1 i) (is_which-true w v z.1 i)
