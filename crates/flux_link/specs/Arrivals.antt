-- Arrivals by their places.
use Rattle.flux_link.specs.declared.arrival.Arrival.{Arrival}
use Rattle.std.specs.Prelude.{◌≡◌, ℕ, ◌+◌, ◌-◌, ◌≤◌, List, [], ◌∷◌, ◌++◌, length, map, IfSome, Option, None, Some, slice_get}
use Rattle.std.proofs.Common.{ap, refl, suc}
use Rattle.tuple_edge.specs.declared.packet.Packet.{Packet}

-- the packet that stands at a place, as an arrival
abbrev pub arrival_at : ℕ → Packet → Arrival
arrival_at place packet = record { index = place; packet = packet }

-- packets as arrivals, the first of them at the place after `before`
abbrev pub numbered_after : ℕ → List Packet → List Arrival
numbered_after before [] = []
numbered_after before (packet ∷ later) = arrival_at (before + 1) packet ∷ numbered_after (before + 1) later

-- packets as arrivals, each with its place from 1
abbrev pub numbered : List Packet → List Arrival
numbered packets = numbered_after 0 packets

-- the first of packets that wait behind so many others, as an arrival
abbrev pub next_after : ℕ → List Packet → Option Arrival
next_after before [] = None
next_after before (packet ∷ later) = Some (arrival_at (before + 1) packet)

-- the packets of arrivals
abbrev pub packets_of : List Arrival → List Packet
packets_of arrivals = map (λ arrival. arrival.packet) arrivals

-- Where an inlet tells what is still to come: what it has given, and that, are together what they were.
abbrev pub KeepsAll : Option (List Packet) → List Arrival → Option (List Packet) → List Arrival → Type 0
KeepsAll coming given coming_after given_after = IfSome coming (λ packets.
    (later : List Packet) × (coming_after ≡ Some later) × (packets_of given_after ++ later ≡ packets_of given ++ packets))

-- an arrival has an index from 1 to the number of packets sent, and its packet is the one sent at its index
pub record WasSent (sent : List Packet) (arrival : Arrival) : Type 0 where
  pub from_one : 1 ≤ arrival.index
  pub within : arrival.index ≤ length sent
  pub packet : slice_get sent (arrival.index - 1) ≡ Some arrival.packet

-- numbering changes no length
pub length-numbered_after : (before : ℕ) (packets : List Packet) → length (numbered_after before packets) ≡ length packets
length-numbered_after before [] = refl
length-numbered_after before (packet ∷ later) = ap (λ n. suc n) (length-numbered_after (before + 1) later)
