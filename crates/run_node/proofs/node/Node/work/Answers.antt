use Rattle.std.proofs.Common.{◌≡◌, ◌∙◌, ◌+◌, ◌<◌, ◌^◌, ◌++◌, List, length, ap, sym, subst, arith}
use Rattle.std.specs.Prelude.{is_some}
use Rattle.tuple_edge.specs.declared.event.Stamped.{Stamped}
use Rattle.event_log.specs.Views.{works_after}
use Rattle.run_node.specs.Ends.{OutLink, OutsView, links_in}
use Rattle.run_node.specs.NodeView.{NodeName, in_names, name_of, out_names}
use Rattle.run_node.specs.Sends.{with_steps_sent}
use Rattle.run_node.specs.SoundNode.{IsSoundNode}
use Rattle.node_tasks.specs.Steps.{pieces}
use Rattle.node_tasks.specs.declared.task.Task.TheVariants as task
use Rattle.run_node.proofs.Events.{sound_still, tap_later}
use Rattle.run_node.proofs.Runs.{length-pieces, sound_after_steps, work_is_own}
use Rattle.run_node.proofs.SentPackets.{names-with_steps_sent}
use Rattle.run_node.proofs.node.Node.work.Goals as goal

pub invariant_of-self-2 : goal.invariant_of-self-2
invariant_of-self-2 g c =
    let n = c.self.inside in
    let did = c.in_ok-steps.ensures in
    let count = c.in_ok-steps.steps.count in
    let sends = pieces count c.in_ok-steps.steps.each c.work.new.out.packets in
    let all : length sends ≡ count = length-pieces count c.in_ok-steps.steps.each c.work.new.out.packets in
    let small : n.clock + length sends < 2 ^ 62 = omega (arith, all, did.most, c.min-most-2.ensures, c.min-most.ensures, c.if-clock-ge-LAST_CLOCK.false) in
    let me = c.reserve_event.ensures.node ∙ c.self.invariant.own in
    let sent : c.flush.new.self.links ≡ with_steps_sent n.clock sends n.outs.links =
    ap (λ (o : OutsView). o.links) c.flush.ensures ∙ c.send_steps.ensures.links ∙ ap (with_steps_sent n.clock sends) c.reserve_event.ensures.links in
    let told : (g.K.Keeps.kept c.work_times.new.self).entries ≡ (g.K.Keeps.kept n.history).entries ++ works_after (g.A.Acts.id n.state) n.clock count =
    c.work_times.ensures.entries ∙ ap (λ l. l ++ works_after (g.K.Keeps.kept c.reserve_event.new.history).node n.clock count) c.reserve_event.ensures.history ∙ ap (λ k. (g.K.Keeps.kept n.history).entries ++ works_after k n.clock count) me in
    record {
      unsent = c.send_steps.ensures.emptied;
      gave = tap_later g.T.Draws.lets_go g.T.Draws.given g.A.Acts.rows g.A.Acts.gone n.tap n.state c.work.new.self c.work.ensures.rows c.work.ensures.gone c.self.invariant.gave;
      sound = λ inputs may timely.
          let s = c.self.invariant.sound inputs ((c.work.ensures.inputs inputs).0 may) timely in
          let sound = sound_after_steps g.A.Acts.id g.A.Acts.of_plan g.A.Acts.stands g.N.RunNames.plan inputs g.N.RunNames.script (links_in n.ins.items) n.fired task.Work work_is_own sends n.state c.work.new.self n.outs.links n.clock (g.K.Keeps.kept n.history).entries s small did.steps in
          let counted = subst (λ k. IsSoundNode g.A.Acts.id g.A.Acts.of_plan g.A.Acts.stands g.N.RunNames.plan inputs g.N.RunNames.script c.work.new.self (links_in n.ins.items) (with_steps_sent n.clock sends n.outs.links) (n.clock + k) n.fired ((g.K.Keeps.kept n.history).entries ++ works_after (g.A.Acts.id n.state) n.clock k)) all sound in
          let at_links = subst (λ (l : List OutLink). IsSoundNode g.A.Acts.id g.A.Acts.of_plan g.A.Acts.stands g.N.RunNames.plan inputs g.N.RunNames.script c.work.new.self (links_in n.ins.items) l (n.clock + count) n.fired ((g.K.Keeps.kept n.history).entries ++ works_after (g.A.Acts.id n.state) n.clock count)) (sym sent) counted in
          subst (λ (l : List Stamped). IsSoundNode g.A.Acts.id g.A.Acts.of_plan g.A.Acts.stands g.N.RunNames.plan inputs g.N.RunNames.script c.work.new.self (links_in n.ins.items) c.flush.new.self.links (n.clock + count) n.fired l) (sym told) at_links;
      own = c.work_times.ensures.node ∙ me ∙ sym c.work.ensures.id;
    }

pub returns-clause-name : goal.returns-clause-name
returns-clause-name g c =
    let n = c.self.inside in
    let sends = pieces c.in_ok-steps.steps.count c.in_ok-steps.steps.each c.work.new.out.packets in
    let sent : c.flush.new.self.links ≡ with_steps_sent n.clock sends n.outs.links =
    ap (λ (o : OutsView). o.links) c.flush.ensures ∙ c.send_steps.ensures.links ∙ ap (with_steps_sent n.clock sends) c.reserve_event.ensures.links in
    let outs : out_names c.flush.new.self.links ≡ out_names n.outs.links = ap out_names sent ∙ names-with_steps_sent n.clock sends n.outs.links in
    let id = c.work.ensures.id in
    let names : ◌≡◌ {A = NodeName} (record { id = g.A.Acts.id c.work.new.self; ins = in_names (links_in n.ins.items); outs = out_names c.flush.new.self.links; tapped = is_some n.tap }) (record { id = g.A.Acts.id n.state; ins = in_names (links_in n.ins.items); outs = out_names n.outs.links; tapped = is_some n.tap }) =
    (λ i. record { id = id i; ins = in_names (links_in n.ins.items); outs = outs i; tapped = is_some n.tap }) in
    names ∙ ap (name_of g.A.Acts.id) c.self.view_is

pub invariant_of-self-in_err-steps : goal.invariant_of-self-in_err-steps
invariant_of-self-in_err-steps g c =
    let n = c.self.inside in
    record {
      unsent = c.in_err-steps.ensures.unsent;
      gave = tap_later g.T.Draws.lets_go g.T.Draws.given g.A.Acts.rows g.A.Acts.gone n.tap n.state c.work.new.self c.work.ensures.rows c.work.ensures.gone c.self.invariant.gave;
      sound = λ inputs may timely.
          let s = c.self.invariant.sound inputs ((c.work.ensures.inputs inputs).0 may) timely in
          let sound = s in
          let still = sound_still g.A.Acts.id g.A.Acts.of_plan g.A.Acts.stands g.N.RunNames.plan inputs g.N.RunNames.script n.state (links_in n.ins.items) n.outs.links n.clock n.fired (g.K.Keeps.kept n.history).entries sound
          c.work.new.self c.reserve_event.new.outs.links (g.K.Keeps.kept c.reserve_event.new.history).entries c.reserve_event.ensures.links c.reserve_event.ensures.history c.work.ensures.id (c.work.ensures.of_plan g.N.RunNames.plan sound.named) (λ x h. c.in_err-steps.ensures.unchanged g.N.RunNames.plan inputs x h) in
          still;
      own = c.reserve_event.ensures.node ∙ c.self.invariant.own ∙ sym c.work.ensures.id;
    }
