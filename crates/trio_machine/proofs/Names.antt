-- Names of nodes: the test of equality says what it should.
use Rattle.std.proofs.Common.{◌≡◌, true, ◌&&◌, refl}
use Rattle.std.specs.Prelude.{◌==◌}
use Rattle.std.proofs.lemmas.Bool.{eqb-true}
use Rattle.trio_machine.specs.Numbers.{is_node}
use Rattle.trio_machine.specs.declared.node.TrioNode.{TrioNode}
use Rattle.trio_machine.specs.declared.node.TrioNode.TheVariants as node
use Rattle.pair_machine.proofs.Tests.{both, nat_self}

pub node_self : (n : TrioNode) → is_node n n ≡ true
node_self node.Ingress = refl
node_self (node.Replica s p c) = simp nat_self
node_self (node.Control s p) = simp nat_self
node_self node.Egress = refl

pub is_node-true : (m n : TrioNode) → is_node m n ≡ true → m ≡ n
is_node-true node.Ingress node.Ingress e = refl
is_node-true node.Ingress (node.Replica s p c) e = cc
is_node-true node.Ingress (node.Control s p) e = cc
is_node-true node.Ingress node.Egress e = cc
is_node-true node.Egress node.Egress e = refl
is_node-true node.Egress (node.Replica s p c) e = cc
is_node-true node.Egress (node.Control s p) e = cc
is_node-true node.Egress node.Ingress e = cc
is_node-true (node.Control s p) node.Ingress e = cc
is_node-true (node.Control s p) node.Egress e = cc
is_node-true (node.Control s p) (node.Replica t q c) e = cc
is_node-true (node.Control s p) (node.Control t q) e = let z = both (s == t) (p == q) e in λ i. node.Control (eqb-true s t z.0 i) (eqb-true p q z.1 i)
is_node-true (node.Replica s p c) node.Ingress e = cc
is_node-true (node.Replica s p c) node.Egress e = cc
is_node-true (node.Replica s p c) (node.Control t q) e = cc
is_node-true (node.Replica s p c) (node.Replica t q d) e =
    let z = both ((s == t) && (p == q)) (c == d) e in
    let y = both (s == t) (p == q) z.0 in
    λ i. node.Replica (eqb-true s t y.0 i) (eqb-true p q y.1 i) (eqb-true c d z.1 i)
