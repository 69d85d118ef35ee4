-- The three replicas of a group.
use Rattle.std.specs.Prelude.{ℕ, List, [], ◌∷◌}
use Rattle.trio_machine.specs.declared.body.TrioBody.{TrioBody}
use Rattle.trio_machine.specs.declared.node.TrioNode.{TrioNode}
use Rattle.trio_machine.specs.declared.node.TrioNode.TheVariants as node

-- a packet to each of them, in their order
abbrev pub to_three : (stage part : ℕ) → TrioBody → List (TrioNode × TrioBody)
to_three stage part b = (node.Replica stage part 0, b) ∷ (node.Replica stage part 1, b) ∷ (node.Replica stage part 2, b) ∷ []
