-- What contracts see of an exact link in memory.
use Rattle.flux_link.specs.Identity.{Identity}
use Rattle.flux_link.specs.RingViews.{producer_identity}
use Rattle.rtrb.specs.Ring.{sent, received, known_items, producer_capacity, IsPair}
use Rattle.rtrb.specs.declared.consumer.Consumer.{Consumer}
use Rattle.rtrb.specs.declared.producer.Producer.{Producer}
use Rattle.std.specs.Prelude.{◌≡◌, ℕ, ◌-◌, List, ◌++◌, length, drop}
use Rattle.std.specs.declared.alloc.Global.{Global}
use Rattle.tuple_edge.specs.declared.packet.Packet.{Packet}

-- the packets given, those that wait to be given, how many may wait, and which link it is
pub record MemLinkView : Type 0 where
  pub given : List Packet
  pub waiting : List Packet
  pub room : ℕ
  pub identity : Identity

-- the packets sent: those given, and those that wait
abbrev pub all_sent : MemLinkView → List Packet
all_sent link = link.given ++ link.waiting

-- for how many more packets there is room
abbrev pub free_room : MemLinkView → ℕ
free_room link = link.room - length link.waiting

module _ {P : Type 0} where
  -- of the packets that went into a ring, those that did not come out yet
  abbrev pub inside_of : Producer Packet Global P → Consumer Packet Global P → List Packet
  inside_of p c = drop (length (received c)) (sent p)

  -- the link by the two ends of its ring
  abbrev pub mem_link_view : Producer Packet Global P → Consumer Packet Global P → MemLinkView
  mem_link_view p c =
      record { given = received c; waiting = inside_of p c; room = producer_capacity p; identity = producer_identity p }

  -- the two ends of one ring, out of which so many packets came: the first that went in; the others are known to be there
  pub record AreEnds (p : Producer Packet Global P) (c : Consumer Packet Global P) (count : ℕ) : Type 0 where
    pub pair : IsPair p c
    pub counted : count ≡ length (received c)
    pub in_order : received c ++ known_items c ≡ sent p
