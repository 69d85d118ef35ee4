-- All that a node ever sent, and what of it went to each receiver.
use Rattle.std.specs.Prelude.{◌≡◌, ◌≤◌, ◌+◌, ℕ, List, [], ◌∷◌, Option, None, Some, Vec, if◌then◌else◌, length, slice_get, take}
use Rattle.std.specs.BTreeMap.{BTreeMap, get}
use Rattle.std.specs.Option.{option_map}
use Rattle.std.specs.declared.alloc.Global.{Global}
use Rattle.tuple_edge.specs.Node.{node_cmp}
use Rattle.tuple_edge.specs.declared.node.NodeId.{NodeId}
use Rattle.tuple_edge.specs.declared.packet.Body.{Body}
use Rattle.pair_machine.specs.Numbers.{is_node}

-- the bodies of the packets to one node, in order
abbrev pub bodies_to : NodeId → List (NodeId × Body) → List Body
bodies_to to [] = []
bodies_to to (p ∷ ps) = if is_node p.0 to then p.1 ∷ bodies_to to ps else bodies_to to ps

-- the body of the packet at a place among all
abbrev pub body_of : List (NodeId × Body) → ℕ → Option Body
body_of packets place = option_map (λ (p : NodeId × Body). p.1) (slice_get packets place)

-- the places of the packets to one node, where the first of all has this place
abbrev pub places_from : ℕ → NodeId → List (NodeId × Body) → List ℕ
places_from nth to [] = []
places_from nth to (p ∷ ps) = if is_node p.0 to then nth ∷ places_from (nth + 1) to ps else places_from (nth + 1) to ps

-- the places of the packets to one node, among all
abbrev pub places_to : NodeId → List (NodeId × Body) → List ℕ
places_to to packets = places_from 0 to packets

-- the places in a list, if there is one
abbrev pub places_in : Option (Vec ℕ Global) → List ℕ
places_in None = []
places_in (Some places) = places.items

-- the places that a map has for one node
abbrev pub listed_for : BTreeMap NodeId (Vec ℕ Global) → NodeId → List ℕ
listed_for map to = places_in (get node_cmp map to)

-- for each receiver the places of its packets among the first so many are listed
pub record AreListed (packets : List (NodeId × Body)) (lists : NodeId → List ℕ) (listed : ℕ) : Type 0 where
  pub within : listed ≤ length packets
  pub places : (to : NodeId) → lists to ≡ places_to to (take listed packets)
