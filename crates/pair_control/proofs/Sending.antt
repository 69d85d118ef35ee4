-- The packets that a controller sends stand for the machine's envelopes.
use Rattle.std.proofs.Common.{◌+◌, ◌&&◌, ℕ, zero, suc, List, [], ◌∷◌, refl}
use Rattle.std.specs.Prelude.{◌==◌, nat_lt}
use Rattle.tuple_edge.specs.declared.node.NodeId.{NodeId}
use Rattle.tuple_edge.specs.declared.node.Which.{Which}
use Rattle.tuple_edge.specs.declared.node.Which.TheVariants.{A, B}
use Rattle.tuple_edge.specs.Input.{Input}
use Rattle.plan_reader.specs.PlanView.{PlanView}
use Rattle.pair_machine.specs.Contents.{BodyStands}
use Rattle.std.specs.Option.{is_none}
use Rattle.pair_machine.specs.Controllers.{acks, acks_from, backs, controller_hears, controller_takes, counts, goes_down, is_catching, is_down, is_up, leads_now, least, stops, then_do}
use Rattle.pair_machine.specs.Links.{link}
use Rattle.pair_machine.specs.Lists.{Each}
use Rattle.pair_machine.specs.Messages.{Ack, AskBack, AskStop, Caught, Down, Envelope, Message, Report}
use Rattle.pair_machine.specs.Numbers.{Controller, Partition, in_edge, other}
use Rattle.pair_machine.specs.Producers.{to_producers}
use Rattle.pair_machine.proofs.Lists.{each_append}
use Rattle.pair_machine.proofs.Tests.{if_elim}
use Rattle.pair_control.specs.Packets.{body_of, packets_of}
use Rattle.pair_machine.specs.Courses.{ArePacketsFor}

module _ (plan : PlanView) (inputs : List Input) (n : NodeId) where
  -- the body that is sent for an envelope of node n stands for its message
  abbrev pub IsSentWell : Envelope → Type 0
  IsSentWell e = BodyStands plan inputs (link n e.to) (body_of e.message) e.message

  pub packets_stand : (es : List Envelope) → Each IsSentWell es → ArePacketsFor (BodyStands plan inputs) n (packets_of es) es
  packets_stand [] h = tt
  packets_stand (e ∷ es) h = ((refl, h.0), packets_stand es h.1)

  abbrev Sent : (Controller × List Envelope) → Type 0
  Sent x = Each IsSentWell x.1

  module _ (p : Partition) where
    goes_down_sent : (w : Which) (c : Controller) → Sent (goes_down p w c)
    goes_down_sent w c = if_elim Sent (leads_now c.leader w) _ _
        (λ t. if_elim Sent (is_up (c.watched (other w)).status) _ _ (λ u. ((refl, refl), tt)) (λ u. tt)) (λ t. tt)

    hears_sent : (w : Which) (m : Message) (c : Controller) → Sent (controller_hears p w m c)
    hears_sent w (Report i e k) c = if_elim Sent (counts (c.watched w) i) _ _ (λ t. tt) (λ t. tt)
    hears_sent w (Down i) c = if_elim Sent (counts (c.watched w) i) _ _ (λ t. goes_down_sent w c) (λ t. tt)
    hears_sent w (AskStop i) c = if_elim Sent (counts (c.watched w) i) _ _ (λ t. tt) (λ t. tt)
    hears_sent w AskBack c = tt
    hears_sent w (Caught i) c = if_elim Sent ((i == (c.watched w).inc) && is_catching (c.watched w).status) _ _
        (λ t. if_elim Sent (is_none c.leader) _ _ (λ u. ((refl, refl), tt)) (λ u. tt)) (λ t. tt)
    hears_sent w m c = tt

    backs_sent : (w : Which) (c : Controller) → Sent (backs p w c)
    backs_sent w c = if_elim Sent ((c.watched w).back && (is_down (c.watched w).status && is_up (c.watched (other w)).status)) _ _ (λ t. (refl, ((refl, refl), tt))) (λ t. tt)

    stops_sent : (w : Which) (c : Controller) → Sent (stops p w c)
    stops_sent w c = if_elim Sent ((c.watched w).stop && (is_up (c.watched w).status && is_up (c.watched (other w)).status)) _ _ (λ t. (refl, goes_down_sent w c)) (λ t. tt)

    producers_sent : (q k : ℕ) → Each IsSentWell (to_producers p q (Ack (in_edge p q) k))
    producers_sent q k = if_elim (Each IsSentWell) (p.stage == 1) _ _ (λ t. ((refl, refl), tt)) (λ t. ((refl, refl), ((refl, refl), tt)))

    acks_sent : (more q : ℕ) (c : Controller) → Each IsSentWell (acks_from more q p c)
    acks_sent zero q c = tt
    acks_sent (suc more) q c = each_append IsSentWell _ (acks_from more (q + 1) p c)
        (if_elim (Each IsSentWell) (nat_lt (c.acked q) (least c q)) (to_producers p q (Ack (in_edge p q) (least c q))) [] (λ t. producers_sent q (least c q)) (λ t. tt))
        (acks_sent more (q + 1) c)

    then_sent : (x : Controller × List Envelope) (g : Controller → (Controller × List Envelope)) → Sent x → Sent (g x.0) → Sent (then_do x g)
    then_sent x g h k = each_append IsSentWell x.1 (g x.0).1 h k

    pub takes_sent : (edges : ℕ) (w : Which) (m : Message) (c : Controller) → Sent (controller_takes edges p w m c)
    takes_sent edges w m c =
        let heard = controller_hears p w m c in
        let a_back = then_do heard (backs p A) in
        let b_back = then_do a_back (backs p B) in
        let a_stopped = then_do b_back (stops p A) in
        let b_stopped = then_do a_stopped (stops p B) in
        then_sent b_stopped (acks edges p) (then_sent a_stopped (stops p B) (then_sent b_back (stops p A) (then_sent a_back (backs p B) (then_sent heard (backs p A) (hears_sent w m c) (backs_sent A heard.0)) (backs_sent B a_back.0)) (stops_sent A b_back.0)) (stops_sent B a_stopped.0))
        (acks_sent edges 0 b_stopped.0)
