-- Three histories of nodes that differ may be merged.
use Rattle.std.proofs.Common.{◌≡◌, inl, inr, [], ◌∷◌}
use Rattle.tuple_edge.specs.declared.event.History.{History}
use Rattle.tuple_edge.specs.declared.node.NodeId.{NodeId}
use Rattle.pair_machine.specs.Joint.{AreRising}
use Rattle.pair_machine.specs.Lists.{Among}
use Rattle.run_journal.specs.Logs.{AreMergeable}

neither : (x y z : NodeId) → (x ≡ y → ⊥) → (x ≡ z → ⊥) → Among x (y ∷ z ∷ []) → ⊥
neither x y z first second (inl e) = first e
neither x y z first second (inr (inl e)) = second e
neither x y z first second (inr (inr a)) = a

not_this : (x y : NodeId) → (x ≡ y → ⊥) → Among x (y ∷ []) → ⊥
not_this x y other (inl e) = other e
not_this x y other (inr a) = a

pub three_nodes : (a b c : History) → (a.node ≡ b.node → ⊥) → (a.node ≡ c.node → ⊥) → (b.node ≡ c.node → ⊥)
    → AreRising a.entries.items → AreRising b.entries.items → AreRising c.entries.items → AreMergeable (a ∷ b ∷ c ∷ [])
three_nodes a b c first second third one two three = record {
  distinct = (neither a.node b.node c.node first second, (not_this b.node c.node third, (λ n. n, tt)));
  rising = (one, (two, (three, tt)));
}
