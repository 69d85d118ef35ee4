-- What the plan has is a node of the machine.
use Rattle.std.proofs.Common.{◌≡◌, ◌<◌, ◌&&◌, ◌∙◌, ℕ, Bool, true, IsTrue, List, sym, ap, subst}
use Rattle.std.proofs.lemmas.Bool.{lt-ltb}
use Rattle.tuple_edge.specs.Input.{Input}
use Rattle.tuple_edge.specs.declared.node.NodeId.{NodeId}
use Rattle.tuple_edge.specs.declared.node.NodeId.TheVariants as pairs
use Rattle.tuple_edge.specs.declared.node.Which.TheVariants as which
use Rattle.plan_reader.specs.Nodes.{has_node}
use Rattle.plan_reader.specs.PlanView.{PlanView}
use Rattle.trio_machine.specs.Flow.{trio_flow}
use Rattle.trio_machine.specs.Links.{HasNode}
use Rattle.trio_machine.specs.Numbers.{group_size}
use Rattle.trio_machine.specs.declared.node.TrioNode.{TrioNode}
use Rattle.trio_machine.specs.declared.node.TrioNode.TheVariants as node
use Rattle.trio_text.specs.Laws.{NodesAreThePlans}

module _ (laws : NodesAreThePlans) (plan seen : PlanView) (inputs : List Input) (n : TrioNode) (same : seen ≡ plan) (answer : Bool) (yes : IsTrue answer) where
  -- what the plan answered
  has_it : (k : NodeId) → answer ≡ has_node seen k → has_node plan k ≡ true
  has_it k says = sym (says ∙ ap (λ p. has_node p k) same) ∙ yes

  pub has_replica : (s p c : ℕ) → n ≡ node.Replica s p c → c < group_size → answer ≡ has_node seen (pairs.Replica s p which.A) → HasNode (trio_flow plan inputs) n
  has_replica s p c is below says =
      let both = subst (λ b. (b && has_node plan (pairs.Replica s p which.A)) ≡ true) (sym (lt-ltb c group_size below)) (has_it (pairs.Replica s p which.A) says) in
      subst (λ m. HasNode (trio_flow plan inputs) m) (sym is) ((laws plan inputs (node.Replica s p c)).there both)

  pub has_control : (s p : ℕ) → n ≡ node.Control s p → answer ≡ has_node seen (pairs.Control s p) → HasNode (trio_flow plan inputs) n
  has_control s p is says = subst (λ m. HasNode (trio_flow plan inputs) m) (sym is) ((laws plan inputs (node.Control s p)).there (has_it (pairs.Control s p) says))
