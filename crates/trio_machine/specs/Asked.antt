-- What a node's step may ask of its numbers and of what it takes. Every sound state gives it, so a node's code may rest on it.
use Rattle.pair_machine.specs.Flow.{Flow}
use Rattle.trio_machine.specs.Lengths.{MessageBound, NodeBound}
use Rattle.trio_machine.specs.Links.{IsCarried}
use Rattle.trio_machine.specs.Messages.{Message, Act, Takes}
use Rattle.trio_machine.specs.Numbers.{Node}
use Rattle.trio_machine.specs.declared.node.TrioNode.{TrioNode}

-- what is asked of a message that a node takes: it stands where it may, and its number is within the lengths
pub record TakenAsks (f : Flow) (n from : TrioNode) (m : Message) : Type 0 where
  pub carried : IsCarried f from n m
  pub bound : MessageBound f m

-- what is asked of an act: only one that takes a message owes anything
abbrev pub ActAsks : Flow → TrioNode → Act → Type 0
ActAsks f n (Takes from m) = TakenAsks f n from m
ActAsks f n a = Unit {0}

-- what is asked of a node's numbers and of its act
abbrev pub Asks : Flow → TrioNode → Node → Act → Type 0
Asks f n x a = NodeBound f n x × ActAsks f n a
