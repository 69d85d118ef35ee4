-- What is heard, and what follows from it, one after the other, are the machine's step.
use Rattle.std.proofs.Common.{◌≡◌, ◌++◌, ◌∙◌, ℕ, List, ap, sym, append_assoc}
use Rattle.tuple_edge.specs.declared.node.NodeId.{NodeId}
use Rattle.tuple_edge.specs.declared.node.Which.{Which}
use Rattle.tuple_edge.specs.declared.node.Which.TheVariants.{A, B}
use Rattle.tuple_edge.specs.declared.packet.Body.{Body}
use Rattle.pair_machine.specs.Controllers.{acks, backs, controller_hears, controller_takes, stops}
use Rattle.pair_machine.specs.Messages.{Envelope, Message}
use Rattle.pair_machine.specs.Numbers.{Controller, Partition}
use Rattle.pair_control.specs.Packets.{packets_of}
use Rattle.pair_control.proofs.Acknowledging.{packets_of-append}

-- the numbers of a controller along a packet: once it is heard, once A and B are brought back, and once A and B are stopped
pub record Along (p : Partition) (w : Which) (m : Message) (c heard a_back b_back a_stopped b_stopped : Controller) : Type 0 where
  pub hears : heard ≡ (controller_hears p w m c).0
  pub back_a : a_back ≡ (backs p A heard).0
  pub back_b : b_back ≡ (backs p B a_back).0
  pub stop_a : a_stopped ≡ (stops p A b_back).0
  pub stop_b : b_stopped ≡ (stops p B a_stopped).0

module _ (edges : ℕ) (p : Partition) (w : Which) (m : Message) (c heard a_back b_back a_stopped b_stopped : Controller) (h : Along p w m c heard a_back b_back a_stopped b_stopped) where
  at_a_back : a_back ≡ (backs p A (controller_hears p w m c).0).0
  at_a_back = h.back_a ∙ ap (λ y. (backs p A y).0) h.hears

  at_b_back : b_back ≡ (backs p B (backs p A (controller_hears p w m c).0).0).0
  at_b_back = h.back_b ∙ ap (λ y. (backs p B y).0) at_a_back

  at_a_stopped : a_stopped ≡ (stops p A (backs p B (backs p A (controller_hears p w m c).0).0).0).0
  at_a_stopped = h.stop_a ∙ ap (λ y. (stops p A y).0) at_b_back

  at_b_stopped : b_stopped ≡ (stops p B (stops p A (backs p B (backs p A (controller_hears p w m c).0).0).0).0).0
  at_b_stopped = h.stop_b ∙ ap (λ y. (stops p B y).0) at_a_stopped

  pub numbers_along : (last : Controller) → last ≡ (acks edges p b_stopped).0 → last ≡ (controller_takes edges p w m c).0
  numbers_along last e = e ∙ ap (λ y. (acks edges p y).0) at_b_stopped

  next : (o now after : List (NodeId × Body)) (es before : List Envelope) → now ≡ o ++ packets_of before → after ≡ now ++ packets_of es → after ≡ o ++ packets_of (before ++ es)
  next o now after es before e e_after = e_after ∙ ap (λ os. os ++ packets_of es) e ∙ append_assoc o (packets_of before) (packets_of es) ∙ ap (λ os. o ++ os) (sym (packets_of-append before es))

  pub packets_along : (o o_heard o_a_back o_b_back o_a_stopped o_b_stopped o_last : List (NodeId × Body)) →
      o_heard ≡ o ++ packets_of (controller_hears p w m c).1 → o_a_back ≡ o_heard ++ packets_of (backs p A heard).1 → o_b_back ≡ o_a_back ++ packets_of (backs p B a_back).1 →
      o_a_stopped ≡ o_b_back ++ packets_of (stops p A b_back).1 → o_b_stopped ≡ o_a_stopped ++ packets_of (stops p B a_stopped).1 →
      o_last ≡ o_b_stopped ++ packets_of (acks edges p b_stopped).1 → o_last ≡ o ++ packets_of (controller_takes edges p w m c).1
  packets_along o o_heard o_a_back o_b_back o_a_stopped o_b_stopped o_last e_heard e_a_back e_b_back e_a_stopped e_b_stopped e_last =
      next o o_b_stopped o_last (acks edges p b_stopped).1 _ (next o o_a_stopped o_b_stopped (stops p B a_stopped).1 _ (next o o_b_back o_a_stopped (stops p A b_back).1 _
      (next o o_a_back o_b_back (backs p B a_back).1 _ (next o o_heard o_a_back (backs p A heard).1 _ e_heard e_a_back) e_b_back) e_a_stopped) e_b_stopped) e_last
      ∙ (λ i. o ++ packets_of ((controller_hears p w m c).1 ++ (backs p A (h.hears i)).1 ++ (backs p B (at_a_back i)).1 ++ (stops p A (at_b_back i)).1 ++ (stops p B (at_a_stopped i)).1 ++ (acks edges p (at_b_stopped i)).1))
