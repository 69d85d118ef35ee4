use Rattle.std.proofs.Common.{Ok, ◌≡◌, ◌∙◌, ◌+◌, ◌<◌, ◌^◌, ◌++◌, ◌∷◌, [], ap, sym, subst, arith, List}
use Rattle.std.specs.Prelude.{is_some}
use Rattle.tuple_edge.specs.declared.event.Event.TheVariants as event
use Rattle.tuple_edge.specs.declared.event.Stamped.{Stamped}
use Rattle.pair_machine.specs.Links.{link}
use Rattle.run_node.specs.Ends.{InLink, OutLink, links_in}
use Rattle.run_node.specs.Fits.{HasHappened, Taken}
use Rattle.run_node.specs.NodeView.{NodeName, NodeView, in_names, out_names}
use Rattle.run_node.specs.Sends.{with_all_sent}
use Rattle.run_node.specs.SoundNode.{IsSoundNode}
use Rattle.run_node.specs.Takes.{Takes}
use Rattle.run_node.proofs.Events.{sound_received, sound_still, tap_later}
use Rattle.run_node.proofs.SentPackets.{names-with_all_sent}
use Rattle.run_node.proofs.Takes.{came_of, fit_before, has_come, names_come, sound_after_take}
use Rattle.run_node.proofs.node.Node.take_next.Goals as goal

pub invariant_of-self-2 : goal.invariant_of-self-2
invariant_of-self-2 g c =
    let n = c.self.inside in
    let first = links_in n.ins.items in
    let third = links_in c.pass_at.new.ins.items in
    let from = c.from-from.result in
    let index = c.index-index.result in
    let packet = c.first-packet.result.now in
    let end = c.end_at-end.result.now in
    let k : Taken = record { from = from; arrival = record { index = index; packet = packet } } in
    let come = has_come from index packet end first (links_in c.waiting_at.new.ins.items) third c.waiting_at.ensures.links c.from-from.ensures c.end_at-end.ensures.next
    c.first-packet.ensures c.index-index.ensures (λ arrival is. c.pass_at.ensures end arrival c.end_at-end.ensures.there is) in
    let clock = c.max-latest.result + 1 in
    let packets = c.take.new.out.packets in
    let did = c.in_ok-take.was ∙ ap Ok c.in-Did.is in
    let later : n.clock < clock = omega (arith, c.max-latest.ensures) in
    let after : packet.at < clock = omega (arith, c.max-latest.ensures) in
    let small : clock < 2 ^ 62 = omega (arith, c.if-latest-ge-LAST_CLOCK.false) in
    let sent : c.send_event.new.outs.links ≡ with_all_sent clock packets n.outs.links = c.send_event.ensures.links ∙ ap (with_all_sent clock packets) c.reserve_event.ensures.links in
    let me : (g.K.Keeps.kept c.reserve_event.new.history).node ≡ g.A.Acts.id n.state = c.reserve_event.ensures.node ∙ c.self.invariant.own in
    let told : (g.K.Keeps.kept c.take-2.new.self).entries ≡ (g.K.Keeps.kept n.history).entries ++ record { clock = clock; event = event.Take (link from (g.A.Acts.id n.state)) index } ∷ [] =
    c.take-2.ensures.entries ∙ ap (λ l. l ++ record { clock = clock; event = event.Take (link from (g.K.Keeps.kept c.reserve_event.new.history).node) index } ∷ []) c.reserve_event.ensures.history ∙ ap (λ m. (g.K.Keeps.kept n.history).entries ++ record { clock = clock; event = event.Take (link from m) index } ∷ []) me in
    record {
      unsent = c.send_event.ensures.unsent;
      gave = tap_later g.T.Draws.lets_go g.T.Draws.given g.A.Acts.rows g.A.Acts.gone n.tap n.state c.take.new.self c.take.ensures.acted.rows c.take.ensures.acted.gone c.self.invariant.gave;
      sound = λ inputs may timely.
          let s = c.self.invariant.sound inputs ((c.take.ensures.acted.inputs inputs).0 may) timely in
          let named = s.named in
          let got = sound_received g.A.Acts.id g.A.Acts.of_plan g.A.Acts.stands g.N.RunNames.plan inputs g.N.RunNames.script n.state first n.outs.links n.clock n.fired (g.K.Keeps.kept n.history).entries s
          third (λ arrived fit. fit_before k first third arrived come fit) in
          let sound = sound_after_take g.A.Acts.id g.A.Acts.of_plan g.A.Acts.stands g.N.RunNames.plan inputs g.N.RunNames.script n.state third n.outs.links n.clock n.fired (g.K.Keeps.kept n.history).entries got
          k c.take.new.self packets clock (λ arrived fit. came_of k first third arrived come fit) later after small c.take.ensures.acted.id (c.take.ensures.acted.of_plan g.N.RunNames.plan named) (c.take.ensures.acted.step did) (c.take.ensures.acted.linked did g.N.RunNames.plan named) in
          let at_links = subst (λ (l : List OutLink). IsSoundNode g.A.Acts.id g.A.Acts.of_plan g.A.Acts.stands g.N.RunNames.plan inputs g.N.RunNames.script c.take.new.self third l clock n.fired ((g.K.Keeps.kept n.history).entries ++ record { clock = clock; event = event.Take (link from (g.A.Acts.id n.state)) index } ∷ [])) (sym sent) sound in
          subst (λ (l : List Stamped). IsSoundNode g.A.Acts.id g.A.Acts.of_plan g.A.Acts.stands g.N.RunNames.plan inputs g.N.RunNames.script c.take.new.self third c.send_event.new.outs.links clock n.fired l) (sym told) at_links;
      own = c.take-2.ensures.node ∙ me ∙ sym c.take.ensures.acted.id;
    }

pub invariant_of-self-in_err-take : goal.invariant_of-self-in_err-take
invariant_of-self-in_err-take g c =
    let n = c.self.inside in
    record {
      unsent = c.in_err-take.ensures.acted.unsent;
      gave = tap_later g.T.Draws.lets_go g.T.Draws.given g.A.Acts.rows g.A.Acts.gone n.tap n.state c.take.new.self c.take.ensures.acted.rows c.take.ensures.acted.gone c.self.invariant.gave;
      sound = λ inputs may timely.
          let s = c.self.invariant.sound inputs ((c.take.ensures.acted.inputs inputs).0 may) timely in
          let sound = s in
          let still = sound_still g.A.Acts.id g.A.Acts.of_plan g.A.Acts.stands g.N.RunNames.plan inputs g.N.RunNames.script n.state (links_in n.ins.items) n.outs.links n.clock n.fired (g.K.Keeps.kept n.history).entries sound
          c.take.new.self c.reserve_event.new.outs.links (g.K.Keeps.kept c.reserve_event.new.history).entries c.reserve_event.ensures.links c.reserve_event.ensures.history c.take.ensures.acted.id (c.take.ensures.acted.of_plan g.N.RunNames.plan sound.named) (λ x h. c.in_err-take.ensures.acted.unchanged g.N.RunNames.plan inputs x h) in
          subst (λ (l : List InLink). IsSoundNode g.A.Acts.id g.A.Acts.of_plan g.A.Acts.stands g.N.RunNames.plan inputs g.N.RunNames.script c.take.new.self l c.reserve_event.new.outs.links n.clock n.fired (g.K.Keeps.kept c.reserve_event.new.history).entries) (sym c.waiting_at.ensures.links) still;
      own = c.reserve_event.ensures.node ∙ c.self.invariant.own ∙ sym c.take.ensures.acted.id;
    }

pub invariant_of-self-in-Idle : goal.invariant_of-self-in-Idle
invariant_of-self-in-Idle g c =
    let n = c.self.inside in
    let idle = c.take.ensures.acted.idle (c.in_ok-take.was ∙ ap Ok c.in-Idle.is) in
    record {
      unsent = idle.1;
      gave = tap_later g.T.Draws.lets_go g.T.Draws.given g.A.Acts.rows g.A.Acts.gone n.tap n.state c.take.new.self c.take.ensures.acted.rows c.take.ensures.acted.gone c.self.invariant.gave;
      sound = λ inputs may timely.
          let s = c.self.invariant.sound inputs ((c.take.ensures.acted.inputs inputs).0 may) timely in
          let sound = s in
          let still = sound_still g.A.Acts.id g.A.Acts.of_plan g.A.Acts.stands g.N.RunNames.plan inputs g.N.RunNames.script n.state (links_in n.ins.items) n.outs.links n.clock n.fired (g.K.Keeps.kept n.history).entries sound
          c.take.new.self c.reserve_event.new.outs.links (g.K.Keeps.kept c.reserve_event.new.history).entries c.reserve_event.ensures.links c.reserve_event.ensures.history c.take.ensures.acted.id (c.take.ensures.acted.of_plan g.N.RunNames.plan sound.named) (λ x h. subst (λ st. g.A.Acts.stands g.N.RunNames.plan inputs st x) (sym idle.0) h) in
          subst (λ (l : List InLink). IsSoundNode g.A.Acts.id g.A.Acts.of_plan g.A.Acts.stands g.N.RunNames.plan inputs g.N.RunNames.script c.take.new.self l c.reserve_event.new.outs.links n.clock n.fired (g.K.Keeps.kept c.reserve_event.new.history).entries) (sym c.waiting_at.ensures.links) still;
      own = c.reserve_event.ensures.node ∙ c.self.invariant.own ∙ sym c.take.ensures.acted.id;
    }

pub returns-clause-takes : goal.returns-clause-takes
returns-clause-takes g c = λ _.
    let n = c.self.inside in
    let first = links_in n.ins.items in
    let third = links_in c.pass_at.new.ins.items in
    let from = c.from-from.result in
    let index = c.index-index.result in
    let packet = c.first-packet.result.now in
    let end = c.end_at-end.result.now in
    let k : Taken = record { from = from; arrival = record { index = index; packet = packet } } in
    let come = has_come from index packet end first (links_in c.waiting_at.new.ins.items) third c.waiting_at.ensures.links c.from-from.ensures c.end_at-end.ensures.next
    c.first-packet.ensures c.index-index.ensures (λ arrival is. c.pass_at.ensures end arrival c.end_at-end.ensures.there is) in
    let clock = c.max-latest.result + 1 in
    let packets = c.take.new.out.packets in
    let sent : c.send_event.new.outs.links ≡ with_all_sent clock packets n.outs.links = c.send_event.ensures.links ∙ ap (with_all_sent clock packets) c.reserve_event.ensures.links in
    let outs : out_names c.send_event.new.outs.links ≡ out_names n.outs.links = ap out_names sent ∙ names-with_all_sent clock packets n.outs.links in
    let ins = names_come k first third come in
    let id = c.take.ensures.acted.id in
    let names : ◌≡◌ {A = NodeName} (record { id = g.A.Acts.id c.take.new.self; ins = in_names third; outs = out_names c.send_event.new.outs.links; tapped = is_some n.tap }) (record { id = g.A.Acts.id n.state; ins = in_names first; outs = out_names n.outs.links; tapped = is_some n.tap }) =
    (λ i. record { id = id i; ins = ins i; outs = outs i; tapped = is_some n.tap }) in
    let me : (g.K.Keeps.kept c.reserve_event.new.history).node ≡ g.A.Acts.id n.state = c.reserve_event.ensures.node ∙ c.self.invariant.own in
    let here : HasHappened (event.Take (link from (g.A.Acts.id n.state)) index) (g.K.Keeps.kept n.history).entries (g.K.Keeps.kept c.take-2.new.self).entries = record {
      clock = clock;
      added = c.take-2.ensures.entries ∙ ap (λ l. l ++ record { clock = clock; event = event.Take (link from (g.K.Keeps.kept c.reserve_event.new.history).node) index } ∷ []) c.reserve_event.ensures.history ∙ ap (λ m. (g.K.Keeps.kept n.history).entries ++ record { clock = clock; event = event.Take (link from m) index } ∷ []) me;
    } in
    let after : NodeView _ _ = record { state = c.take.new.self; ins = third; outs = c.send_event.new.outs.links; history = (g.K.Keeps.kept c.take-2.new.self).entries; tap = n.tap } in
    (k, subst (λ (v : NodeView _ _). Takes g.A.Acts.id v after k) c.self.view_is (record { name = names; came = come; event = here }))
