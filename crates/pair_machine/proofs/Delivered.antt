-- Where the packets that a node sends stand for envelopes, those to one node stand for the messages to it.
use Rattle.std.proofs.Common.{◌≡◌, ℕ, Bool, true, false, List, [], ◌∷◌, refl, sym, subst}
use Rattle.std.specs.Prelude.{if◌then◌else◌}
use Rattle.tuple_edge.specs.declared.node.LinkId.{LinkId}
use Rattle.tuple_edge.specs.declared.node.NodeId.{NodeId}
use Rattle.tuple_edge.specs.declared.packet.Body.{Body}
use Rattle.tuple_edge.specs.declared.packet.Packet.{Packet}
use Rattle.pair_machine.specs.Courses.{ArePacketsFor, ArePacketsOf, packets_to}
use Rattle.pair_machine.specs.Links.{link}
use Rattle.pair_machine.specs.Machine.{messages_to}
use Rattle.pair_machine.specs.Messages.{Envelope, Message}
use Rattle.pair_machine.specs.Numbers.{is_node}
use Rattle.pair_machine.proofs.Names.{is_node-true}

module _ (Stands : LinkId → Body → Message → Type 0) (n : NodeId) (clock : ℕ) (to : NodeId) where
  pub delivered : (packets : List (NodeId × Body)) (envelopes : List Envelope) → ArePacketsFor Stands n packets envelopes →
      ArePacketsOf Stands (link n to) (packets_to clock to packets) (messages_to to envelopes)
  delivered [] [] h = tt
  delivered [] (e ∷ es) h = absurd h
  delivered (p ∷ ps) [] h = absurd h
  delivered (p ∷ ps) (e ∷ es) h =
      subst (λ k. ArePacketsOf Stands (link n to) (if is_node k to then packet ∷ rest else rest) (messages_to to (e ∷ es))) (sym h.0.0)
      (go (is_node e.to to) (is_node-true e.to to) (delivered ps es h.1))
    where
      packet : Packet
      packet = record { at = clock; body = p.1 }

      rest : List Packet
      rest = packets_to clock to ps

      go : (here : Bool) → (here ≡ true → e.to ≡ to) → ArePacketsOf Stands (link n to) rest (messages_to to es) →
          ArePacketsOf Stands (link n to) (if here then packet ∷ rest else rest) (if here then e.message ∷ messages_to to es else messages_to to es)
      go true same more = (subst (λ k. Stands (link n k) p.1 e.message) (same refl) h.0.1, more)
      go false same more = more
