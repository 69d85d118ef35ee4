-- What the threads left stands for a state from which the drain may begin, and the drain's end is that of a run of just what came.
use Rattle.std.proofs.Common.{◌≡◌, ◌∙◌, List, ap, map, subst, sym}
use Rattle.event_log.specs.Blocks.{BlocksView}
use Rattle.plan_nodes.specs.NodeOrder.{nodes_of}
use Rattle.plan_nodes.specs.States.{id_of}
use Rattle.plan_nodes.specs.declared.state.NodeState.{NodeState}
use Rattle.flux_core.specs.CoreView.{CoreView, HasItsInputs, gone_by}
use Rattle.flux_core.specs.Opening.{bare_core}
use Rattle.flux_core.specs.Stands.{IsGiven}
use Rattle.streamed_run.proofs.Courses.{legal}
use Rattle.streamed_run.proofs.Finishing.{all_came, begin_output, ends, given, gone_is}
use Rattle.streamed_run.proofs.run.finish.Goals as goal

pub of-requires-clause-names : goal.of-requires-clause-names
of-requires-clause-names g c = subst (λ (ns : List NodeState). map id_of ns ≡ nodes_of c.args.job.now.plan.now) (sym c.end_first.ensures)
    (legal c.args.job.now.plan.now c.args.job.now.script.now (g.S.Source.gave c.args.source.now) (g.S.Source.ended c.args.source.now) c.args.left c.requires.legal).nodes_are

pub of-requires-clause-given : goal.of-requires-clause-given
of-requires-clause-given g c = subst (λ (ns : List NodeState). IsGiven (bare_core c.args.job.now.plan.now ns)) (sym c.end_first.ensures)
    (given c.args.job.now.plan.now c.args.job.now.script.now (g.S.Source.gave c.args.source.now) (g.S.Source.ended c.args.source.now) c.args.left c.requires.legal c.stages-stages.ensures.limits)

pub of-requires-clause-came : goal.of-requires-clause-came
of-requires-clause-came g c = subst (λ (ns : List NodeState). HasItsInputs (bare_core c.args.job.now.plan.now ns)) (sym c.end_first.ensures)
    (all_came c.args.job.now.plan.now c.args.job.now.script.now (g.S.Source.gave c.args.source.now) (g.S.Source.ended c.args.source.now) c.args.left c.requires.legal c.stages-stages.ensures.limits)

pub returns-clause-ended : goal.returns-clause-ended
returns-clause-ended g c =
    ends c.args.job.now.plan.now c.args.job.now.script.now (g.S.Source.gave c.args.source.now) (g.S.Source.ended c.args.source.now) c.args.left c.requires.legal c.stages-stages.ensures.limits
    (g.T.RowTap.given c.args.tap.now) c.requires.handed
    c.in_ok-core.core c.drain.new.core c.new-events.result.events c.drain.new.events.events c.in_ok-drained.drained
    (c.in_ok-core.ensures ∙ ap (bare_core c.args.job.now.plan.now) c.end_first.ensures) (ap (λ (b : BlocksView). b.events) c.new-events.ensures)
    c.drain.ensures.plan c.drain.ensures.inputs c.drain.ensures.gone c.in_ok-drained.ensures.drained

pub returns-clause-gone : goal.returns-clause-gone
returns-clause-gone g c =
    c.drain.ensures.gone ∙ (ap (λ (core : CoreView). gone_by core) (c.in_ok-core.ensures ∙ ap (bare_core c.args.job.now.plan.now) c.end_first.ensures)
    ∙ gone_is c.args.job.now.plan.now c.args.job.now.script.now (g.S.Source.gave c.args.source.now) (g.S.Source.ended c.args.source.now) c.args.left c.requires.legal
    (g.T.RowTap.given c.args.tap.now) c.requires.handed)

pub returns-clause-front : goal.returns-clause-front
returns-clause-front g c = begin_output c.args.job.now.plan.now c.args.job.now.script.now (g.S.Source.gave c.args.source.now) (g.S.Source.ended c.args.source.now) c.args.left c.requires.legal
    (g.T.RowTap.given c.args.tap.now) c.requires.handed

pub returns-in_err-core-clause-front : goal.returns-in_err-core-clause-front
returns-in_err-core-clause-front g c = begin_output c.args.job.now.plan.now c.args.job.now.script.now (g.S.Source.gave c.args.source.now) (g.S.Source.ended c.args.source.now) c.args.left c.requires.legal
    (g.T.RowTap.given c.args.tap.now) c.requires.handed

pub returns-in_err-drained-clause-front : goal.returns-in_err-drained-clause-front
returns-in_err-drained-clause-front g c = begin_output c.args.job.now.plan.now c.args.job.now.script.now (g.S.Source.gave c.args.source.now) (g.S.Source.ended c.args.source.now) c.args.left c.requires.legal
    (g.T.RowTap.given c.args.tap.now) c.requires.handed
