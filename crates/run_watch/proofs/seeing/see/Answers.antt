use Rattle.std.proofs.Common.{◌≡◌, ◌∙◌, ◌+◌, true, ap, subst, sym}
use Rattle.plan_reader.specs.Nodes.{has_node}
use Rattle.flux_core.specs.CoreView.{inputs_of}
use Rattle.run_watch.specs.Stamps.{IsAt}
use Rattle.run_watch.specs.TraceView.{view_of}
use Rattle.run_watch.specs.Watching.{fallen}
use Rattle.run_watch.proofs.Noted.{node_named, seen_at}
use Rattle.run_watch.proofs.seeing.see.Goals as goal

pub glimpse-requires-2 : goal.glimpse-requires-2
glimpse-requires-2 c =
    subst (λ p. has_node p c.node-node.result ≡ true) (sym c.apply.ensures.plan) (node_named c.args.core.now c.known.ensures c.args.lined.now.event c.node-node.result c.node-node.ensures c.requires.named)

pub pair_loss-loss-requires : goal.pair_loss-loss-requires
pair_loss-loss-requires c =
    subst (λ p. has_node p c.node-node.result ≡ true) (sym c.apply.ensures.plan) (node_named c.args.core.now c.known.ensures c.args.lined.now.event c.node-node.result c.node-node.ensures c.requires.named)

pub returns-clause-seen : goal.returns-clause-seen
returns-clause-seen c =
    seen_at c.args.core.now c.apply.new.self c.args.lined.now (view_of c.args.trace.now) (view_of c.pass.new.self) c.node-node.result c.in_ok-before.before c.in_ok-after.after c.pair_loss-loss.result c.at-at.result
    c.known.ensures c.node-node.ensures c.requires.named c.in_default.ensures.applied
    (record {
      before_is = c.in_ok-before.ensures;
      after_is = c.in_ok-after.ensures;
      pair_is = c.pair_loss-loss.ensures;
      at_is = λ s stands. subst (λ k. IsAt c.apply.new.self.plan (inputs_of c.apply.new.self) c.at-at.result (k + 1) c.args.lined.now.line s) c.place.ensures (c.at-at.ensures s stands);
    })
    (c.pass.ensures.told ∙ c.in_ok-note.ensures.told)
    (c.in_ok-pass.ensures.falls ∙ (λ j. fallen (c.note.ensures.place j + 1) c.args.lined.now.event (c.note.ensures.falls j)))
    (c.in_ok-pass.ensures.place ∙ ap (λ k. k + 1) c.note.ensures.place)
