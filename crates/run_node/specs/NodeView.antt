-- What contracts see of a node.
use Rattle.std.specs.Prelude.{Bool, List, Option, is_some, map}
use Rattle.flux_link.specs.Identity.{Identity}
use Rattle.tuple_edge.specs.declared.event.Stamped.{Stamped}
use Rattle.tuple_edge.specs.declared.node.NodeId.{NodeId}
use Rattle.run_node.specs.Ends.{InLink, OutLink}

-- a node: its own part, its links, its history, and its tap
pub record NodeView (A T : Type 0) : Type 0 where
  pub state : A
  pub ins : List InLink
  pub outs : List OutLink
  pub history : List Stamped
  pub tap : Option T

-- a node's name for good: its id, for each link the other end and which link it is, and whether it has a tap
pub record NodeName : Type 0 where
  pub id : NodeId
  pub ins : List (NodeId × Identity)
  pub outs : List (NodeId × Identity)
  pub tapped : Bool

-- of each link on which a node receives: who sends there, and which link it is
abbrev pub in_names : List InLink → List (NodeId × Identity)
in_names ins = map (λ l. (l.from, l.identity)) ins

-- of each link on which a node sends: who receives there, and which link it is
abbrev pub out_names : List OutLink → List (NodeId × Identity)
out_names outs = map (λ l. (l.to, l.identity)) outs

-- the name that a node has for good
abbrev pub name_of : {A T : Type 0} → (A → NodeId) → NodeView A T → NodeName
name_of id n = record { id = id n.state; ins = in_names n.ins; outs = out_names n.outs; tapped = is_some n.tap }
