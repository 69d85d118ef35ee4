-- What contracts see of a node's ends of links.
use Rattle.std.specs.Prelude.{◌≤◌, ℕ, List, [], ◌∷◌, Option, map, if◌then◌else◌, Bool, false, ◌||◌}
use Rattle.flux_link.specs.Identity.{Identity}
use Rattle.flux_link.specs.declared.arrival.Arrival.{Arrival}
use Rattle.pair_machine.specs.Lists.{Each}
use Rattle.pair_machine.specs.Numbers.{is_node}
use Rattle.tuple_edge.specs.declared.node.NodeId.{NodeId}
use Rattle.tuple_edge.specs.declared.packet.Packet.{Packet}

-- a link on which a node receives: the sender, which link it is, and the arrivals that it gave
pub record InLink : Type 0 where
  pub from : NodeId
  pub identity : Identity
  pub given : List Arrival

-- a link on which a node sends: the receiver, which link it is, and the packets emitted on it, whether sent or still waiting for room
pub record OutLink : Type 0 where
  pub to : NodeId
  pub identity : Identity
  pub emitted : List Packet

-- the end of a link on which a node sends: the link, and how many further packets may wait there without memory
pub record OutEndView : Type 0 where
  pub link : OutLink
  pub spare : ℕ

-- all ends on which a node sends: the links, and how many further packets may wait at each of them without memory
pub record OutsView : Type 0 where
  pub links : List OutLink
  pub room : ℕ

-- the end of a link on which a node receives: the link, and the next arrival, where it is known that one waits
pub record InEndView : Type 0 where
  pub link : InLink
  pub next : Option Arrival

-- the links of these ends on which a node receives
abbrev pub links_in : List InEndView → List InLink
links_in ins = map (λ e. e.link) ins

-- the links of these ends on which a node sends
abbrev pub links_of : List OutEndView → List OutLink
links_of outs = map (λ e. e.link) outs

-- at each end there is room for so many packets
abbrev pub HaveRoom : ℕ → List OutEndView → Type 0
HaveRoom n outs = Each (λ e. n ≤ e.spare) outs

-- the packets emitted on the link to a node
abbrev pub emitted_to : List OutLink → NodeId → List Packet
emitted_to [] n = []
emitted_to (l ∷ ls) n = if is_node l.to n then l.emitted else emitted_to ls n

-- a link leads to a node
abbrev pub leads_to : List OutLink → NodeId → Bool
leads_to [] n = false
leads_to (l ∷ ls) n = is_node l.to n || leads_to ls n
