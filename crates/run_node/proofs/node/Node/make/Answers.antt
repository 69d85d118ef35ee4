use Rattle.std.proofs.Common.{◌≡◌, ◌∙◌, ◌+◌, ◌<◌, ◌^◌, ◌++◌, List, ap, refl, sym, subst, arith}
use Rattle.tuple_edge.specs.declared.event.Stamped.{Stamped}
use Rattle.event_log.specs.Views.{LogView, makes_after}
use Rattle.run_node.specs.Ends.{links_in}
use Rattle.run_node.specs.SoundNode.{IsSoundNode}
use Rattle.run_node.proofs.Events.{sound_still, tap_later}
use Rattle.run_node.proofs.Runs.{sound_after_makes}
use Rattle.run_node.proofs.node.Node.make.Goals as goal

pub invariant_of-self-2 : goal.invariant_of-self-2
invariant_of-self-2 g c =
    let n = c.self.inside in
    let did = c.in_ok-times.ensures in
    let count = c.in_ok-times.times in
    let small : n.clock + count < 2 ^ 62 = omega (arith, did.most, c.min-most-2.ensures, c.min-most.ensures, c.if-clock-ge-LAST_CLOCK.false) in
    let me = ap (λ (l : LogView). l.node) c.reserve.ensures.same ∙ c.self.invariant.own in
    let told : (g.K.Keeps.kept c.make_times.new.self).entries ≡ (g.K.Keeps.kept n.history).entries ++ makes_after n.clock count =
    c.make_times.ensures.entries ∙ ap (λ (l : LogView). l.entries ++ makes_after n.clock count) c.reserve.ensures.same in
    record {
      unsent = c.self.invariant.unsent;
      gave = tap_later g.T.Draws.lets_go g.T.Draws.given g.A.Acts.rows g.A.Acts.gone n.tap n.state c.make.new.self c.make.ensures.rows c.make.ensures.gone c.self.invariant.gave;
      sound = λ inputs may timely.
          let s = c.self.invariant.sound inputs ((c.make.ensures.inputs inputs).0 may) timely in
          let sound = sound_after_makes g.A.Acts.id g.A.Acts.of_plan g.A.Acts.stands g.N.RunNames.plan inputs g.N.RunNames.script (links_in n.ins.items) n.fired
          (g.A.Acts.wants c.args.plan.now) count n.state c.make.new.self n.outs.links n.clock (g.K.Keeps.kept n.history).entries s small did.steps in
          subst (λ (l : List Stamped). IsSoundNode g.A.Acts.id g.A.Acts.of_plan g.A.Acts.stands g.N.RunNames.plan inputs g.N.RunNames.script c.make.new.self (links_in n.ins.items) n.outs.links (n.clock + count) n.fired l) (sym told) sound;
      own = c.make_times.ensures.node ∙ me ∙ sym c.make.ensures.id;
    }

pub invariant_of-self-in_err-times : goal.invariant_of-self-in_err-times
invariant_of-self-in_err-times g c =
    let n = c.self.inside in
    let told : (g.K.Keeps.kept c.reserve.new.self).entries ≡ (g.K.Keeps.kept n.history).entries = ap (λ (l : LogView). l.entries) c.reserve.ensures.same in
    record {
      unsent = c.self.invariant.unsent;
      gave = tap_later g.T.Draws.lets_go g.T.Draws.given g.A.Acts.rows g.A.Acts.gone n.tap n.state c.make.new.self c.make.ensures.rows c.make.ensures.gone c.self.invariant.gave;
      sound = λ inputs may timely.
          let s = c.self.invariant.sound inputs ((c.make.ensures.inputs inputs).0 may) timely in
          let sound = s in
          sound_still g.A.Acts.id g.A.Acts.of_plan g.A.Acts.stands g.N.RunNames.plan inputs g.N.RunNames.script n.state (links_in n.ins.items) n.outs.links n.clock n.fired (g.K.Keeps.kept n.history).entries sound
          c.make.new.self n.outs.links (g.K.Keeps.kept c.reserve.new.self).entries refl told c.make.ensures.id (c.make.ensures.of_plan g.N.RunNames.plan sound.named) (λ x h. c.in_err-times.ensures.unchanged g.N.RunNames.plan inputs x h);
      own = ap (λ (l : LogView). l.node) c.reserve.ensures.same ∙ c.self.invariant.own ∙ sym c.make.ensures.id;
    }
