use Rattle.std.proofs.Common.{◌∙◌, ◌++◌, ◌∷◌, [], None, Some, ap, subst, sym}
use Rattle.std.specs.Option.{option_or}
use Rattle.std.specs.Prelude.{if◌then◌else◌}
use Rattle.tuple_edge.specs.declared.node.NodeId.{NodeId}
use Rattle.tuple_edge.specs.declared.node.NodeId.TheVariants as node
use Rattle.pair_machine.specs.Lists.{Each}
use Rattle.pair_machine.specs.Numbers.{is_node}
use Rattle.pair_machine.proofs.Lists.{each_more}
use Rattle.plan_nodes.specs.declared.state.NodeState.{NodeState}
use Rattle.partition_runner.specs.declared.ran.Left.{Left}
use Rattle.partition_runner.proofs.Fitting.{feed_more}
use Rattle.partition_runner.proofs.Parts.{more_left}
use Rattle.partition_runner.proofs.ran.Left.add.Goals as goal

pub returns-clause-of_parts : goal.returns-clause-of_parts
returns-clause-of_parts g c = λ parts old.
    let after : Left _ = record { nodes = c.push_reserved.new.self; logs = c.push_reserved-2.new.self } in
    more_left g.K.Keeps.kept parts c.args.self.now after c.args.part.state c.args.part.history old
    (c.push_reserved.ensures.items ∙ ap (λ s. c.args.self.now.nodes.items ++ s ∷ []) c.into_parts-state.ensures.state) c.push_reserved-2.ensures.items c.requires.named

pub returns-clause-fits : goal.returns-clause-fits
returns-clause-fits g c = λ old.
    let Fits : NodeState → Type 0 = λ s. (f : g.row.F.Denot) × g.F.Feed.fits f s in
    subst (Each Fits) (sym c.push_reserved.ensures.items) (each_more Fits c.args.self.now.nodes.items c.into_parts-state.result.0 old (c.into_parts-state.result.1, c.into_parts-state.ensures.fits))

pub returns-clause-feed : goal.returns-clause-feed
returns-clause-feed g c =
    feed_more g.F.Feed.fits c.args.feed c.first_feed-feed.result c.into_parts-state.result.1 c.args.self.now.nodes.items c.push_reserved.new.self.items c.into_parts-state.result.0 c.push_reserved.ensures.items
    (c.first_feed-feed.ensures ∙ ap (λ (n : NodeId). option_or c.args.feed (if is_node n node.Ingress then Some c.into_parts-state.result.1 else None)) c.id.ensures)
    c.into_parts-state.ensures.fits c.requires.feed
