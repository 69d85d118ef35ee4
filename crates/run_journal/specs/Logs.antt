-- The histories of nodes as one log.
use Rattle.std.specs.Prelude.{List, map}
use Rattle.tuple_edge.specs.declared.event.History.{History}
use Rattle.tuple_edge.specs.declared.node.NodeId.{NodeId}
use Rattle.pair_machine.specs.Joint.{AreDistinct, AreRising, Logged, log_by_clocks}
pub use Rattle.pair_machine.specs.Joint.{history_of}
use Rattle.pair_machine.specs.Lists.{Each}

-- the nodes whose histories these are, in order
abbrev pub nodes_of : List History → List NodeId
nodes_of histories = map (λ h. h.node) histories

-- the log of these histories, by clock and node
abbrev pub log_of_histories : List History → List Logged
log_of_histories histories = log_by_clocks (history_of histories) (nodes_of histories)

-- the nodes differ, and the clocks of each rise
pub record AreMergeable (histories : List History) : Type 0 where
  pub distinct : AreDistinct (nodes_of histories)
  pub rising : Each (λ h. AreRising h.entries.items) histories
