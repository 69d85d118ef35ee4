-- What the threads left stands for a state from which the drain may begin, and the drain's end is the run's.
use Rattle.std.proofs.Common.{◌∙◌, ap, refl}
use Rattle.event_log.specs.Blocks.{BlocksView}
use Rattle.trade_text.specs.TradesView.{inputs_in}
use Rattle.pair_machine.specs.Joint.{logged_events}
use Rattle.run_journal.specs.Logs.{log_of_histories}
use Rattle.run_journal.specs.Text.{lined_from}
use Rattle.drained_run.proofs.Ending.{all_came, given, none_gone}
use Rattle.listed_run.specs.Listed.{first_line}
use Rattle.listed_run.proofs.Ending.{listed}
use Rattle.listed_run.proofs.Ran.{legal_ran, mergeable, ran_of}
use Rattle.listed_run.proofs.run.finish.Goals as goal

pub merge-requires : goal.merge-requires
merge-requires g c = rw c.deref.ensures.value (mergeable c.args.job.now.plan.now (inputs_in c.args.job.now.trades.now) c.args.job.now.script.now c.args.ran c.requires)

pub of-requires-clause-names : goal.of-requires-clause-names
of-requires-clause-names g c = c.requires.course.nodes_are

pub of-requires-clause-given : goal.of-requires-clause-given
of-requires-clause-given g c =
    given c.args.job.now.plan.now (inputs_in c.args.job.now.trades.now) c.args.job.now.script.now (ran_of c.args.ran) c.stages-stages.ensures.limits
    (legal_ran c.args.job.now.plan.now (inputs_in c.args.job.now.trades.now) c.args.job.now.script.now c.args.ran c.requires) c.requires.came

pub of-requires-clause-rows : goal.of-requires-clause-rows
of-requires-clause-rows g c = λ _. none_gone c.args.job.now.plan.now c.args.ran.nodes.items c.requires.course.nodes_are c.requires.held

pub of-requires-clause-came : goal.of-requires-clause-came
of-requires-clause-came g c =
    all_came c.args.job.now.plan.now (inputs_in c.args.job.now.trades.now) c.args.job.now.script.now (ran_of c.args.ran) c.stages-stages.ensures.limits
    (legal_ran c.args.job.now.plan.now (inputs_in c.args.job.now.trades.now) c.args.job.now.script.now c.args.ran c.requires) c.requires.came

pub returns : goal.returns
returns g c =
    listed c.args.job.now.plan.now (inputs_in c.args.job.now.trades.now) c.args.job.now.script.now c.args.ran c.stages-stages.ensures.limits c.requires
    c.in_ok-core.core c.drain.new.core c.new-blocks.result.events c.drain.new.events.events c.in_ok-events.events.items c.append_to.new.events.items c.in_ok-drained.drained _
    c.in_ok-core.ensures (ap (λ (b : BlocksView). b.events) c.new-blocks.ensures) c.drain.ensures.plan c.drain.ensures.inputs c.in_ok-drained.ensures.drained
    (c.in_ok-events.ensures ∙ ap (λ hs. logged_events (log_of_histories hs)) c.deref.ensures.value) c.in_ok-append_to.ensures
    (c.in_ok-lines.ensures ∙ ap (lined_from first_line) c.deref-2.ensures.value) (c.in_ok-rows.ensures.items ∙ c.emitted.ensures.value) refl
