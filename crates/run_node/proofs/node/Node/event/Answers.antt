use Rattle.std.proofs.Common.{Ok, ◌≡◌, ◌∙◌, ◌+◌, ◌<◌, ◌^◌, ◌++◌, ◌∷◌, [], ap, sym, subst, arith, List, false}
use Rattle.std.specs.Prelude.{is_some}
use Rattle.tuple_edge.specs.declared.event.Stamped.{Stamped}
use Rattle.pair_machine.specs.Numbers.{Node}
use Rattle.pair_machine.specs.Scripts.{IsAllowedAt}
use Rattle.run_node.specs.Ends.{links_in}
use Rattle.run_node.specs.Fits.{HasHappened}
use Rattle.run_node.specs.NodeView.{NodeView, NodeName, name_of, out_names, in_names}
use Rattle.run_node.specs.Sends.{with_all_sent}
use Rattle.run_node.specs.SoundNode.{IsSoundNode}
use Rattle.node_tasks.specs.Tasks.{event_of}
use Rattle.run_node.specs.Fired.{fired_after, repeats}
use Rattle.run_node.proofs.Events.{sound_after, sound_still, tap_later}
use Rattle.run_node.proofs.Merged.{unclocked, untaken, clock_of}
use Rattle.run_node.proofs.SentPackets.{names-with_all_sent}
use Rattle.run_node.proofs.node.Node.event.Goals as goal

pub invariant_of-self-2 : goal.invariant_of-self-2
invariant_of-self-2 g c =
    let n = c.self.inside in
    let c_new = n.clock + 1 in
    let packets = c.act.new.out.packets in
    let reserved = c.reserve_event.ensures.links in
    let sent : c.send_event.new.outs.links ≡ with_all_sent c_new packets n.outs.links = c.send_event.ensures.links ∙ ap (with_all_sent c_new packets) reserved in
    let did = c.in_ok-act.was ∙ ap Ok c.in-Did.is in
    let later : n.clock < c_new = omega arith in
    let first : clock_of c.args.task.now ≡ 0 = unclocked c.args.task.now c.requires.untaken in
    let after : clock_of c.args.task.now < c_new = omega (arith, first) in
    let small : c_new < 2 ^ 62 = omega (arith, c.if-clock-ge-LAST_CLOCK.false) in
    let fresh : repeats n.fired c.args.task.now ≡ false = sym c.repeats.ensures ∙ c.if-repeats.false in
    let fired : fired_after n.fired c.args.task.now ≡ c.after-self-inside.result = sym c.after-self-inside.ensures in
    let me : (g.K.Keeps.kept c.reserve_event.new.history).node ≡ g.A.Acts.id n.state = c.reserve_event.ensures.node ∙ c.self.invariant.own in
    let history = c.note.ensures.entries ∙ (ap (λ l. l ++ record { clock = c_new; event = event_of (g.K.Keeps.kept c.reserve_event.new.history).node c.args.task.now } ∷ []) c.reserve_event.ensures.history ∙ ap (λ k. (g.K.Keeps.kept n.history).entries ++ record { clock = c_new; event = event_of k c.args.task.now } ∷ []) me) in
    record {
      unsent = c.send_event.ensures.unsent;
      gave = tap_later g.T.Draws.lets_go g.T.Draws.given g.A.Acts.rows g.A.Acts.gone n.tap n.state c.act.new.self c.act.ensures.rows c.act.ensures.gone c.self.invariant.gave;
      sound = λ inputs may timely.
          let s = c.self.invariant.sound inputs ((c.act.ensures.inputs inputs).0 may) timely in
          let allowed = subst (λ (v : NodeView _ _). (x : Node) → g.A.Acts.stands g.N.RunNames.plan inputs v.state x → IsAllowedAt g.N.RunNames.script (event_of (g.A.Acts.id v.state) c.args.task.now) x) (sym c.self.view_is) (c.requires.allowed inputs) in
          let sound = sound_after g.A.Acts.id g.A.Acts.of_plan g.A.Acts.stands g.N.RunNames.plan inputs g.N.RunNames.script n.state (links_in n.ins.items) n.outs.links n.clock n.fired (g.K.Keeps.kept n.history).entries s
          c.args.task.now c.act.new.self packets c_new (λ arrived fit. untaken arrived c.args.task.now c.requires.untaken) later after small fresh c.act.ensures.id (c.act.ensures.of_plan g.N.RunNames.plan s.named)
          (c.act.ensures.here did) (c.act.ensures.step did) (c.act.ensures.linked did g.N.RunNames.plan s.named) allowed in
          let at_links = subst (λ l. IsSoundNode g.A.Acts.id g.A.Acts.of_plan g.A.Acts.stands g.N.RunNames.plan inputs g.N.RunNames.script c.act.new.self (links_in n.ins.items) l c_new c.after-self-inside.result ((g.K.Keeps.kept n.history).entries ++ record { clock = c_new; event = event_of (g.A.Acts.id n.state) c.args.task.now } ∷ [])) (sym sent) (subst (λ f. IsSoundNode g.A.Acts.id g.A.Acts.of_plan g.A.Acts.stands g.N.RunNames.plan inputs g.N.RunNames.script c.act.new.self (links_in n.ins.items) (with_all_sent c_new packets n.outs.links) c_new f ((g.K.Keeps.kept n.history).entries ++ record { clock = c_new; event = event_of (g.A.Acts.id n.state) c.args.task.now } ∷ [])) fired sound) in
          subst (λ (l : List Stamped). IsSoundNode g.A.Acts.id g.A.Acts.of_plan g.A.Acts.stands g.N.RunNames.plan inputs g.N.RunNames.script c.act.new.self (links_in n.ins.items) c.send_event.new.outs.links c_new c.after-self-inside.result l) (sym history) at_links;
      own = c.note.ensures.node ∙ c.reserve_event.ensures.node ∙ c.self.invariant.own ∙ sym c.act.ensures.id;
    }

pub returns-clause-name : goal.returns-clause-name
returns-clause-name g c =
    let n = c.self.inside in
    let c_new = n.clock + 1 in
    let packets = c.act.new.out.packets in
    let reserved = c.reserve_event.ensures.links in
    let sent : c.send_event.new.outs.links ≡ with_all_sent c_new packets n.outs.links = c.send_event.ensures.links ∙ ap (with_all_sent c_new packets) reserved in
    let outs : out_names c.send_event.new.outs.links ≡ out_names n.outs.links = ap out_names sent ∙ names-with_all_sent c_new packets n.outs.links in
    let id = c.act.ensures.id in
    let names : ◌≡◌ {A = NodeName} (record { id = g.A.Acts.id c.act.new.self; ins = in_names (links_in n.ins.items); outs = out_names c.send_event.new.outs.links; tapped = is_some n.tap }) (record { id = g.A.Acts.id n.state; ins = in_names (links_in n.ins.items); outs = out_names n.outs.links; tapped = is_some n.tap }) =
    (λ i. record { id = id i; ins = in_names (links_in n.ins.items); outs = outs i; tapped = is_some n.tap }) in
    names ∙ ap (name_of g.A.Acts.id) c.self.view_is

pub invariant_of-self-in_err-act : goal.invariant_of-self-in_err-act
invariant_of-self-in_err-act g c =
    let n = c.self.inside in
    let same = c.reserve_event.ensures.links in
    record {
      unsent = c.in_err-act.ensures.unsent;
      gave = tap_later g.T.Draws.lets_go g.T.Draws.given g.A.Acts.rows g.A.Acts.gone n.tap n.state c.act.new.self c.act.ensures.rows c.act.ensures.gone c.self.invariant.gave;
      sound = λ inputs may timely.
          let s = c.self.invariant.sound inputs ((c.act.ensures.inputs inputs).0 may) timely in
          let sound = s in
          let still = sound_still g.A.Acts.id g.A.Acts.of_plan g.A.Acts.stands g.N.RunNames.plan inputs g.N.RunNames.script n.state (links_in n.ins.items) n.outs.links n.clock n.fired (g.K.Keeps.kept n.history).entries sound
          c.act.new.self c.reserve_event.new.outs.links (g.K.Keeps.kept c.reserve_event.new.history).entries same c.reserve_event.ensures.history c.act.ensures.id (c.act.ensures.of_plan g.N.RunNames.plan sound.named) (λ x h. c.in_err-act.ensures.unchanged g.N.RunNames.plan inputs x h) in
          still;
      own = c.reserve_event.ensures.node ∙ c.self.invariant.own ∙ sym c.act.ensures.id;
    }

pub invariant_of-self-in-Idle : goal.invariant_of-self-in-Idle
invariant_of-self-in-Idle g c =
    let n = c.self.inside in
    let same = c.reserve_event.ensures.links in
    let idle = c.act.ensures.idle (c.in_ok-act.was ∙ ap Ok c.in-Idle.is) in
    record {
      unsent = idle.1;
      gave = tap_later g.T.Draws.lets_go g.T.Draws.given g.A.Acts.rows g.A.Acts.gone n.tap n.state c.act.new.self c.act.ensures.rows c.act.ensures.gone c.self.invariant.gave;
      sound = λ inputs may timely.
          let s = c.self.invariant.sound inputs ((c.act.ensures.inputs inputs).0 may) timely in
          let sound = s in
          let still = sound_still g.A.Acts.id g.A.Acts.of_plan g.A.Acts.stands g.N.RunNames.plan inputs g.N.RunNames.script n.state (links_in n.ins.items) n.outs.links n.clock n.fired (g.K.Keeps.kept n.history).entries sound
          c.act.new.self c.reserve_event.new.outs.links (g.K.Keeps.kept c.reserve_event.new.history).entries same c.reserve_event.ensures.history c.act.ensures.id (c.act.ensures.of_plan g.N.RunNames.plan sound.named) (λ x h. subst (λ st. g.A.Acts.stands g.N.RunNames.plan inputs st x) (sym idle.0) h) in
          still;
      own = c.reserve_event.ensures.node ∙ c.self.invariant.own ∙ sym c.act.ensures.id;
    }

pub returns-clause-happens : goal.returns-clause-happens
returns-clause-happens g c = λ _.
    let n = c.self.inside in
    let me : (g.K.Keeps.kept c.reserve_event.new.history).node ≡ g.A.Acts.id n.state = c.reserve_event.ensures.node ∙ c.self.invariant.own in
    let here : HasHappened (event_of (g.A.Acts.id n.state) c.args.task.now) (g.K.Keeps.kept n.history).entries (g.K.Keeps.kept c.note.new.history).entries = record {
      clock = n.clock + 1;
      added = c.note.ensures.entries ∙ (ap (λ l. l ++ record { clock = n.clock + 1; event = event_of (g.K.Keeps.kept c.reserve_event.new.history).node c.args.task.now } ∷ []) c.reserve_event.ensures.history ∙ ap (λ k. (g.K.Keeps.kept n.history).entries ++ record { clock = n.clock + 1; event = event_of k c.args.task.now } ∷ []) me);
    } in
    subst (λ (v : NodeView _ _). HasHappened (event_of (g.A.Acts.id v.state) c.args.task.now) v.history (g.K.Keeps.kept c.note.new.history).entries) c.self.view_is here
