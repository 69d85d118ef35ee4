-- What a node's step may ask of its numbers and of what it takes. Every sound state gives it, so a node's code may rest on it.
use Rattle.std.specs.Prelude.{◌≡◌, Some}
use Rattle.tuple_edge.specs.declared.node.NodeId.{NodeId}
use Rattle.tuple_edge.specs.declared.node.NodeId.TheVariants as node
use Rattle.pair_machine.specs.Numbers.{MoveNumbers, Replica, Gathering, Node, Partition}
use Rattle.pair_machine.specs.Messages.{Message, Chunk, ChunkEnd, Act, Takes}
use Rattle.pair_machine.specs.Flow.{Flow}
use Rattle.pair_machine.specs.Lengths.{MessageBound, NodeBound}
use Rattle.pair_machine.specs.Links.{Carries, HasNode, link}
use Rattle.pair_machine.specs.Machine.{replica_in}
use Rattle.pair_machine.specs.Replicas.{size}

-- a chunk of the move of which others were taken has its numbers, and an end counts the whole list
abbrev pub IsOfSameMove : Flow → Partition → Replica → Message → Type 0
IsOfSameMove f p (Gathering g) (Chunk i k m) = i ≡ g.inc → (taken : MoveNumbers) → g.moved ≡ Some taken → m ≡ taken
IsOfSameMove f p (Gathering g) (ChunkEnd i k m) = (i ≡ g.inc → (taken : MoveNumbers) → g.moved ≡ Some taken → m ≡ taken) × (k ≡ size f p m)
IsOfSameMove f p r m = Unit {0}

-- the same of any node: only a replica takes chunks, so of another node nothing is asked
abbrev pub IsOfSameMoveAt : Flow → NodeId → Node → Message → Type 0
IsOfSameMoveAt f (node.Replica s p w) x m = IsOfSameMove f (record { stage = s; part = p }) (replica_in x) m
IsOfSameMoveAt f n x m = Unit {0}

-- what is asked of a message that a node takes
pub record TakenAsks (f : Flow) (n : NodeId) (x : Node) (from : NodeId) (m : Message) : Type 0 where
  -- its sender is a node of the plan
  pub sender : HasNode f from
  -- the link carries it
  pub carried : Carries f (link from n) m
  -- its numbers are within the lengths
  pub bound : MessageBound f (link from n) m
  pub same_move : IsOfSameMoveAt f n x m

-- what is asked of an act: of a message that is taken, and of no other act anything
abbrev pub ActAsks : Flow → NodeId → Node → Act → Type 0
ActAsks f n x (Takes from m) = TakenAsks f n x from m
ActAsks f n x a = Unit {0}

-- what is asked of a node's numbers and of its act
abbrev pub Asks : Flow → NodeId → Node → Act → Type 0
Asks f n x a = NodeBound f n x × ActAsks f n x a
