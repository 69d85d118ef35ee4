-- All that a node ever sent, what of it went to each receiver, and where that stands.
use Rattle.std.specs.Prelude.{◌≡◌, ◌≤◌, ℕ, Bool, false, IsSome, List, [], ◌∷◌, ◌++◌, Option, None, Some, if◌then◌else◌, length, slice_get, take}
use Rattle.std.specs.Option.{option_and_then}
use Rattle.pair_machine.specs.Consumers.{first_below}
use Rattle.trio_machine.specs.Numbers.{is_node}
use Rattle.trio_machine.specs.declared.body.TrioBody.{TrioBody}
use Rattle.trio_machine.specs.declared.node.TrioNode.{TrioNode}

-- the bodies of the packets to one node, in order
abbrev pub bodies_to : TrioNode → List (TrioNode × TrioBody) → List TrioBody
bodies_to to [] = []
bodies_to to (p ∷ ps) = if is_node p.0 to then p.1 ∷ bodies_to to ps else bodies_to to ps

-- the body of a packet, if it is there and went to this node
abbrev pub of_packet : TrioNode → Option (TrioNode × TrioBody) → Option TrioBody
of_packet to None = None
of_packet to (Some p) = if is_node p.0 to then Some p.1 else None

-- the body of the packet at a place among all, where it went to this node
abbrev pub body_at : TrioNode → List (TrioNode × TrioBody) → ℕ → Option TrioBody
body_at to packets nth = of_packet to (slice_get packets nth)

-- so many of the first packets went to a node
pub record Counted (to : TrioNode) (packets : List (TrioNode × TrioBody)) (nth sent : ℕ) : Type 0 where
  pub few : sent ≤ nth
  pub count : sent ≡ length (bodies_to to (take nth packets))

-- ---- places by receiver

-- the places of the packets to one receiver, among all
pub record LinkView : Type 0 where
  pub to : TrioNode
  pub places : List ℕ

-- whether they are those of this receiver
abbrev pub is_link : TrioNode → Option LinkView → Bool
is_link to None = false
is_link to (Some l) = is_node l.to to

-- the first link to a receiver
abbrev pub link_of : TrioNode → List LinkView → Option ℕ
link_of to links = first_below (λ k. is_link to (slice_get links k)) (length links)

-- the places in a list for one receiver, if there is one
abbrev pub places_in : Option LinkView → List ℕ
places_in None = []
places_in (Some l) = l.places

-- the places that are listed for a receiver
abbrev pub listed_for : List LinkView → TrioNode → List ℕ
listed_for links to = places_in (option_and_then (slice_get links) (link_of to links))

-- one place more
abbrev pub longer : LinkView → ℕ → LinkView
longer l place = record l { places = l.places ++ place ∷ [] }

-- a packet to a node stands at this place, after so many others to it
pub record IsNthTo (to : TrioNode) (packets : List (TrioNode × TrioBody)) (place nth : ℕ) : Type 0 where
  pub before : Counted to packets place nth
  pub there : IsSome (body_at to packets place)

-- of the first so many packets those to a node stand at these places, in order
pub record AreOf (to : TrioNode) (packets : List (TrioNode × TrioBody)) (places : List ℕ) (listed : ℕ) : Type 0 where
  pub each : (nth place : ℕ) → slice_get places nth ≡ Some place → IsNthTo to packets place nth
  pub all : Counted to packets listed (length places)

-- for each receiver the places of its packets among the first so many are listed
pub record AreListed (packets : List (TrioNode × TrioBody)) (lists : TrioNode → List ℕ) (listed : ℕ) : Type 0 where
  pub within : listed ≤ length packets
  pub each : (to : TrioNode) → AreOf to packets (lists to) listed
