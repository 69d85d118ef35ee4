use Rattle.std.proofs.Common.{◌∙◌, [], ap, subst, sym}
use Rattle.run_node.specs.Ends.{OutsView, links_in, links_of}
use Rattle.run_node.specs.SoundNode.{IsSoundNode}
use Rattle.run_node.proofs.Events.{sound_new}
use Rattle.run_node.proofs.node.Node.new.Goals as goal

pub invariant_of-result : goal.invariant_of-result
invariant_of-result g c =
    let r = c.requires in
    record {
      unsent = c.new-2.ensures;
      gave = r.tap;
      sound = λ inputs may timely.
          let sound = sound_new g.A.Acts.id g.A.Acts.of_plan g.A.Acts.stands g.N.RunNames.plan inputs g.N.RunNames.script c.args.state (links_in c.args.ins.items) (links_of c.args.outs.items) c.nothing.result r.planned timely r.named (r.there inputs) (r.opening inputs may) r.linked r.fresh in
          let linked = subst (λ l. IsSoundNode g.A.Acts.id g.A.Acts.of_plan g.A.Acts.stands g.N.RunNames.plan inputs g.N.RunNames.script c.args.state (links_in c.args.ins.items) l 0 c.nothing.result [])
          (sym (ap (λ (o : OutsView). o.links) c.new.ensures)) sound in
          subst (IsSoundNode g.A.Acts.id g.A.Acts.of_plan g.A.Acts.stands g.N.RunNames.plan inputs g.N.RunNames.script c.args.state (links_in c.args.ins.items) c.new.result.links 0 c.nothing.result) (sym c.new-history.ensures.entries) linked;
      own = c.new-history.ensures.node ∙ c.id.ensures;
    }
