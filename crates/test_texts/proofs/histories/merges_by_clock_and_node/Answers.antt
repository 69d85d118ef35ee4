use Rattle.std.proofs.Common.{◌≡◌, sym, ◌∙◌}
use Rattle.tuple_edge.specs.declared.node.NodeId.{NodeId}
use Rattle.tuple_edge.specs.declared.node.NodeId.TheVariants as node
use Rattle.tuple_edge.specs.declared.node.Which.TheVariants as which
use Rattle.test_texts.proofs.ThreeNodes.{three_nodes}
use Rattle.test_texts.proofs.histories.merges_by_clock_and_node.Goals as goal

-- nodes that are two others, which differ
differ : (m n k l : NodeId) → (k ≡ l → ⊥) → m ≡ k → n ≡ l → m ≡ n → ⊥
differ m n k l other first second same = other (sym first ∙ same ∙ second)

pub merge-requires : goal.merge-requires
merge-requires g c =
    let a = c.in_ok-last.last in
    let b = c.in_ok-middle.middle in
    let d = c.in_ok-first.first in
    let replica : NodeId = node.Replica 1 0 which.A in
    three_nodes a b d
    (differ a.node b.node node.Egress replica (λ e. cc e) c.in_ok-last.ensures.node c.in_ok-middle.ensures.node)
    (differ a.node d.node node.Egress node.Ingress (λ e. cc e) c.in_ok-last.ensures.node c.in_ok-first.ensures.node)
    (differ b.node d.node replica node.Ingress (λ e. cc e) c.in_ok-middle.ensures.node c.in_ok-first.ensures.node)
    c.in_ok-last.ensures.rises c.in_ok-middle.ensures.rises c.in_ok-first.ensures.rises
