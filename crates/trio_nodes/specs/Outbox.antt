-- What contracts see of an outbox.
use Rattle.std.specs.Prelude.{ℕ, List}
use Rattle.trio_machine.specs.declared.node.TrioNode.{TrioNode}
use Rattle.trio_machine.specs.declared.body.TrioBody.{TrioBody}

-- no event of a node of a group sends more packets: a controller may name a leader, and acknowledge each of its in-edges to three replicas
abbrev pub most_packets : ℕ
most_packets = 25

-- a controller sends no more acknowledgements in an event
abbrev pub most_acks : ℕ
most_acks = 24

-- the packets to be sent, each with its receiver, and how many more fit without memory
pub record TrioOutboxView : Type 0 where
  pub packets : List (TrioNode × TrioBody)
  pub spare : ℕ
