use Rattle.std.proofs.Common.{◌∙◌, [], append-nil, refl, sym}
use Rattle.run_node.specs.Ends.{links_in}
use Rattle.run_node.proofs.Events.{sound_still, tap_later}
use Rattle.run_node.proofs.node.Node.refill.Goals as goal

pub invariant_of-self : goal.invariant_of-self
invariant_of-self g c =
    let n = c.self.inside in
    let fed = c.refill.ensures in
    record {
      unsent = c.self.invariant.unsent;
      gave = tap_later g.T.Draws.lets_go g.T.Draws.given g.A.Acts.rows g.A.Acts.gone n.tap n.state c.refill.new.self ([], append-nil (g.A.Acts.rows n.state) ∙ sym fed.rows) fed.gone c.self.invariant.gave;
      sound = λ inputs may timely.
          let s = c.self.invariant.sound inputs (fed.inputs inputs may) timely in
          sound_still g.A.Acts.id g.A.Acts.of_plan g.A.Acts.stands g.N.RunNames.plan inputs g.N.RunNames.script n.state (links_in n.ins.items) n.outs.links n.clock n.fired (g.K.Keeps.kept n.history).entries s
          c.refill.new.self n.outs.links (g.K.Keeps.kept n.history).entries refl refl fed.id (fed.of_plan g.N.RunNames.plan s.named) (λ x h. fed.stands g.N.RunNames.plan inputs x may h);
      own = c.self.invariant.own ∙ sym fed.id;
    }
