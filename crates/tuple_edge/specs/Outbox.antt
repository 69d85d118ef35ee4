-- What contracts see of an outbox.
use Rattle.std.specs.Prelude.{ℕ, List}
use Rattle.tuple_edge.specs.declared.node.NodeId.{NodeId}
use Rattle.tuple_edge.specs.declared.packet.Body.{Body}

-- the packets to be sent, each with its receiver, and how many more fit without memory
pub record OutboxView : Type 0 where
  pub packets : List (NodeId × Body)
  pub spare : ℕ
