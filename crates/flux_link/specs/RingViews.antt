-- What contracts see of the two ends of a ring.
use Rattle.flux_link.specs.Identity.{Identity}
use Rattle.flux_link.specs.declared.arrival.Arrival.{Arrival}
use Rattle.rtrb.specs.Ring.{sent, received, known_free, known_items}
use Rattle.rtrb.specs.declared.consumer.Consumer.{Consumer}
use Rattle.rtrb.specs.declared.producer.Producer.{Producer}
use Rattle.std.specs.Prelude.{◌≡◌, ℕ, ◌+◌, List, [], ◌∷◌, ◌++◌, length}
use Rattle.std.specs.declared.alloc.Global.{Global}
use Rattle.tuple_edge.specs.declared.packet.Packet.{Packet}
use mathlib.Core.List.{IsPrefix}

-- the end that sends: the packets sent, how many free slots it knows of, and which link it is
pub record RingOutView : Type 0 where
  pub sent : List Packet
  pub known_free : ℕ
  pub identity : Identity

-- the end that receives: the packets given, those that it knows to be waiting, and which link it is
pub record RingInView : Type 0 where
  pub given : List Packet
  pub known_waiting : List Packet
  pub identity : Identity

-- the end gave the packet behind those that it had given, with its place: the first of those that it knew to be waiting, if any, and it still knows the others
pub record GivesFirst (before : RingInView) (arrival : Arrival) (after : RingInView) : Type 0 where
  pub link : after.identity ≡ before.identity
  pub place : arrival.index ≡ length before.given + 1
  pub given : after.given ≡ before.given ++ arrival.packet ∷ []
  pub known : IsPrefix before.known_waiting (arrival.packet ∷ after.known_waiting)

module _ {P : Type 0} where
  -- the ring to which an end that sends belongs
  abbrev pub producer_identity : Producer Packet Global P → Identity
  producer_identity p = record { words = p.end.words; slots = p.end.slots; names = p.end.names; heap = p.end.heap }

  -- the ring to which an end that receives belongs
  abbrev pub consumer_identity : Consumer Packet Global P → Identity
  consumer_identity c = record { words = c.end.words; slots = c.end.slots; names = c.end.names; heap = c.end.heap }

  -- the end that sends, by what it has sent and how many free slots it knows of
  abbrev pub ring_out_view : Producer Packet Global P → RingOutView
  ring_out_view p = record { sent = sent p; known_free = known_free p; identity = producer_identity p }

  -- the end that receives, by what it has given and what it knows to be waiting
  abbrev pub ring_in_view : Consumer Packet Global P → RingInView
  ring_in_view c = record { given = received c; known_waiting = known_items c; identity = consumer_identity c }
