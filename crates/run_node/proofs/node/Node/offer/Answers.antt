use Rattle.std.proofs.Common.{◌∙◌, refl, sym}
use Rattle.run_node.specs.Ends.{links_in}
use Rattle.run_node.proofs.Events.{sound_still}
use Rattle.run_node.proofs.node.Node.offer.Goals as goal

pub invariant_of-self-2 : goal.invariant_of-self-2
invariant_of-self-2 g c =
    let n = c.self.inside in
    let drawn = c.draw.ensures in
    record {
      unsent = c.self.invariant.unsent;
      gave = drawn.drawn;
      sound = λ inputs may timely.
          let s = c.self.invariant.sound inputs (drawn.inputs inputs may) timely in
          sound_still g.A.Acts.id g.A.Acts.of_plan g.A.Acts.stands g.N.RunNames.plan inputs g.N.RunNames.script n.state (links_in n.ins.items) n.outs.links n.clock n.fired (g.K.Keeps.kept n.history).entries s
          c.draw.new.state n.outs.links (g.K.Keeps.kept n.history).entries refl refl drawn.id (drawn.of_plan g.N.RunNames.plan s.named) (λ x h. drawn.stands g.N.RunNames.plan inputs x h);
      own = c.self.invariant.own ∙ sym drawn.id;
    }
