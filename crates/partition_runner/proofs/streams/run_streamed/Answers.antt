use Rattle.std.proofs.Common.{◌≡◌, ◌∙◌, None, Some, ap, subst, sym}
use Rattle.event_log.specs.Views.{LogView}
use Rattle.linked_run.specs.Runs.{parts_in}
use Rattle.plan_nodes.specs.declared.state.NodeState.{NodeState}
use Rattle.std.specs.Prelude.{List}
use Rattle.partition_runner.specs.Feeds.{IsFedBy, IsFeedOf}
use Rattle.partition_runner.specs.Streams.{AreHandedOn}
use Rattle.partition_runner.proofs.Ends.{begin_output, handed_on, has_source, legal_stream}
use Rattle.partition_runner.proofs.streams.run_streamed.Goals as goal

pub unreachable-requires : goal.unreachable-requires
unreachable-requires g c =
    let e = c.run_ready-parts.ensures in
    let f = c.filled-left.ensures in
    let parts = parts_in (λ (l : LogView). l) c.run_ready-parts.result.parts.items in
    let there = has_source g.S.Source.gave g.S.Source.ended g.N.RunNames.plan g.N.RunNames.script parts c.filled-left.result.0 e.ids e.run f.of_parts c.filled-left.result.1 f.feed in
    let clash : Some (Some there.0) ≡ None = sym there.1 ∙ c.in_default.is in
    cc clash

pub unreachable-requires-in_default-feed : goal.unreachable-requires-in_default-feed
unreachable-requires-in_default-feed g c =
    let e = c.run_ready-parts.ensures in
    let f = c.filled-left.ensures in
    let parts = parts_in (λ (l : LogView). l) c.run_ready-parts.result.parts.items in
    let there = has_source g.S.Source.gave g.S.Source.ended g.N.RunNames.plan g.N.RunNames.script parts c.filled-left.result.0 e.ids e.run f.of_parts c.filled-left.result.1 f.feed in
    let clash : Some (Some there.0) ≡ Some None = sym there.1 ∙ (c.in-Some.is ∙ ap Some c.in_default-feed.is) in
    cc clash

pub returns-then-failed-clause-tap : goal.returns-then-failed-clause-tap
returns-then-failed-clause-tap g c =
    let e = c.run_ready-parts.ensures in
    let f = c.filled-left.ensures in
    let parts = parts_in (λ (l : LogView). l) c.run_ready-parts.result.parts.items in
    let is : c.filled-left.result.1 ≡ Some (Some c.in-Some-feed.supply) = c.in-Some.is ∙ ap Some c.in-Some-feed.is in
    begin_output g.S.Source.gave g.S.Source.ended g.N.RunNames.plan g.N.RunNames.script parts c.filled-left.result.0 e.ids e.run f.of_parts c.in-Some-feed.supply (subst (λ o. IsFeedOf (IsFedBy g.S.Source.gave g.S.Source.ended) o c.filled-left.result.0.nodes.items) is f.feed)
    (g.T.RowTap.given c.run_ready-parts.result.tap.tap) e.tap.0 e.tap.1 e.tap.2

pub returns-clause-tap : goal.returns-clause-tap
returns-clause-tap g c =
    let e = c.run_ready-parts.ensures in
    let f = c.filled-left.ensures in
    let parts = parts_in (λ (l : LogView). l) c.run_ready-parts.result.parts.items in
    subst (λ (nodes : List NodeState). AreHandedOn (g.T.RowTap.given c.run_ready-parts.result.tap.tap) nodes) (sym f.of_parts.nodes)
    (handed_on (λ (h : _). g.T.RowTap.given h.tap) g.N.RunNames.plan c.run_ready-parts.result.tap parts e.ids e.taps)

pub returns-clause-run : goal.returns-clause-run
returns-clause-run g c =
    let e = c.run_ready-parts.ensures in
    let f = c.filled-left.ensures in
    let parts = parts_in (λ (l : LogView). l) c.run_ready-parts.result.parts.items in
    let is : c.filled-left.result.1 ≡ Some (Some c.in-Some-feed.supply) = c.in-Some.is ∙ ap Some c.in-Some-feed.is in
    legal_stream g.S.Source.gave g.S.Source.ended g.N.RunNames.plan g.N.RunNames.script parts c.filled-left.result.0 e.ids e.run f.of_parts c.in-Some-feed.supply
    (subst (λ o. IsFeedOf (IsFedBy g.S.Source.gave g.S.Source.ended) o c.filled-left.result.0.nodes.items) is f.feed)
