-- What is pulled is one more item of its edge.
use Rattle.std.proofs.Common.{◌≡◌, ◌≤◌, ℕ, Some, ◌+◌, ◌-◌, refl, ap, subst, arith}
use Rattle.tuple_edge.specs.declared.node.EdgeId.{EdgeId}
use Rattle.pair_machine.specs.Boundary.{egress_partition}
use Rattle.pair_machine.specs.CountLaws.{IsOfStage}
use Rattle.pair_machine.specs.Drain.{partition}
use Rattle.pair_machine.specs.Flow.{Flow}
use Rattle.pair_machine.specs.Machine.{Buffer}
use Rattle.pair_machine.specs.Numbers.{Consumer, Partition, in_edge, out_edge}
use Rattle.pair_machine.specs.Replicas.{made_by}
use Rattle.trio_machine.specs.Boundary.{source_made}
use Rattle.trio_machine.specs.Flow.{IsTrioFlow}
use Rattle.trio_machine.specs.Links.{HasNode, IsProducer}
use Rattle.trio_machine.specs.Machine.{State, buffer_in, buffer_of, ingress_in, mark_in, replica_in}
use Rattle.trio_machine.specs.Numbers.{Gone, Node, Replica, Running, RunningNumbers}
use Rattle.trio_machine.specs.declared.node.TrioNode.{TrioNode}
use Rattle.trio_machine.specs.declared.node.TrioNode.TheVariants as node
use Rattle.trio_machine.proofs.BoundaryKept.{edge_as}
use Rattle.trio_machine.proofs.Steps.{IsPulled}

module _ (f : Flow) (ok : IsTrioFlow f) where
  abbrev buffer : ℕ → ℕ → Buffer
  buffer low produced = record { low = low; produced = produced }

  replica_made : (p : Partition) (t : ℕ) (r : Replica) (o : Buffer) → IsOfStage f p → buffer_in f p t r ≡ Some o → o.produced ≤ f.length (out_edge p t)
  replica_made p t Gone o at e = cc
  replica_made p t (Running x) o at e =
      let z : buffer (x.producer.lows t) (made_by f p x.consumer.count t) ≡ o = cc in let y = ap (λ (v : Buffer). v.produced) z in
      let m = ok.flow.made_most p t x.consumer.count at.first at.last at.part in omega arith

  -- a buffer holds items of its edge
  pub made_most : (e : EdgeId) (n : TrioNode) (x : Node) (o : Buffer) → HasNode f n → IsProducer f e n → buffer_of f e.to n x ≡ Some o → o.produced ≤ f.length e
  made_most e node.Ingress x o h g is =
      let same = ap f.length (edge_as e 0 0 e.to g.0 g.1 refl) in
      let z : buffer ((ingress_in x).producer.lows e.to) (source_made f (ingress_in x) e.to) ≡ o = cc in let y = ap (λ (v : Buffer). v.produced) z in
      let m = ok.flow.makes_most 0 e.to (ingress_in x).makes in omega arith
  made_most e (node.Replica s p c) x o h g is =
      let same = ap f.length (edge_as e s p e.to g.1 g.2 refl) in
      let m = replica_made (partition s p) e.to (replica_in x) o h.0 is in omega arith
  made_most e (node.Control s p) x o h g is = absurd g
  made_most e node.Egress x o h g is = absurd g

  module _ (s : State) where
    pulled_most : (n : TrioNode) (q : ℕ) (g : IsPulled f s n q) → g.mark + 1 ≤ f.length g.edge
    pulled_most n q g = let m = made_most g.edge g.from (s.nodes g.from) g.buffer g.has_node g.producer g.buffer_is in let b = g.below_made in omega arith

    pub replica_pulled : (t p c q : ℕ) (r : Replica) (g : IsPulled f s (node.Replica t p c) q) → mark_in q r ≡ Some g.mark → (x : RunningNumbers) → r ≡ Running x → x.consumer.marks q + 1 ≤ f.length (in_edge (partition t p) q)
    replica_pulled t p c q r g e x runs =
        let l = pulled_most (node.Replica t p c) q g in
        let is : mark_in q (Running x) ≡ Some g.mark = subst (λ v. mark_in q v ≡ Some g.mark) runs e in
        let m : x.consumer.marks q ≡ g.mark = cc is in
        let stage : g.edge.stage ≡ t - 1 = omega (arith, g.consumer.0) in
        let same = ap f.length (edge_as g.edge (t - 1) q p stage g.part g.consumer.1) in
        omega arith

    pub egress_pulled : (q : ℕ) (x : Consumer) (g : IsPulled f s node.Egress q) → Some (x.marks q) ≡ Some g.mark → x.marks q + 1 ≤ f.length (in_edge (egress_partition f) q)
    egress_pulled q x g e =
        let l = pulled_most node.Egress q g in
        let m : x.marks q ≡ g.mark = cc e in
        let stage : g.edge.stage ≡ f.stages + 1 - 1 = omega (arith, g.consumer.0) in
        let same = ap f.length (edge_as g.edge (f.stages + 1 - 1) q 0 stage g.part g.consumer.1) in
        omega arith
