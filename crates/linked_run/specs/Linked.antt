-- How the links of nodes fit together.
use Rattle.std.specs.Prelude.{◌≡◌, false, List, [], ◌∷◌, Option, None, Some, if◌then◌else◌, map}
use Rattle.flux_link.specs.Identity.{Identity}
use Rattle.tuple_edge.specs.declared.node.NodeId.{NodeId}
use Rattle.pair_machine.specs.Lists.{Each}
use Rattle.pair_machine.specs.Numbers.{is_node}
use Rattle.run_node.specs.FirstLinks.{identity_to}
use Rattle.run_node.specs.NodeView.{NodeName}

-- the name of the first node with an id
abbrev pub name_at : List NodeName → NodeId → Option NodeName
name_at [] n = None
name_at (m ∷ ms) n = if is_node m.id n then Some m else name_at ms n

-- a node's in-link comes from another node, whose link to it is this one
pub record IsLinkFrom (names : List NodeName) (me from : NodeId) (identity : Identity) : Type 0 where
  pub sender : NodeName
  pub there : name_at names from ≡ Some sender
  pub other : is_node from me ≡ false
  pub same : identity_to sender.outs me ≡ Some identity

-- each in-link of each node is some node's link to it
abbrev pub AreLinked : List NodeName → List NodeName → Type 0
AreLinked all names = Each (λ n. Each (λ l. IsLinkFrom all n.id l.0 l.1) n.ins) names

-- no id stands twice
abbrev pub AreDistinct : List NodeName → Type 0
AreDistinct [] = Unit {0}
AreDistinct (n ∷ ns) = Each (λ m. is_node n.id m.id ≡ false) ns × AreDistinct ns

-- the ids in these names
abbrev pub ids_of : List NodeName → List NodeId
ids_of names = map (λ m. m.id) names
