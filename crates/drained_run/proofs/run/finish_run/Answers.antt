-- What the threads left stands for a state from which the drain may begin, and the drain's end is the run's.
use Rattle.std.proofs.Common.{ap}
use Rattle.event_log.specs.Blocks.{BlocksView}
use Rattle.trade_text.specs.TradesView.{inputs_in}
use Rattle.drained_run.proofs.Ending.{all_came, given, none_gone, run_ends}
use Rattle.drained_run.proofs.Fronts.{goes_on, run_front}
use Rattle.drained_run.proofs.Joined.{legal_ran, mergeable, ran_of}
use Rattle.drained_run.proofs.run.finish_run.Goals as goal

pub of-requires-clause-names : goal.of-requires-clause-names
of-requires-clause-names g c = c.requires.course.nodes_are

pub of-requires-clause-given : goal.of-requires-clause-given
of-requires-clause-given g c =
    given c.args.job.now.plan.now (inputs_in c.args.job.now.trades.now) c.args.job.now.script.now (ran_of g.K.Keeps.kept c.args.left) c.stages-stages.ensures.limits
    (legal_ran g.K.Keeps.kept c.args.job.now.plan.now (inputs_in c.args.job.now.trades.now) c.args.job.now.script.now c.args.left c.requires) c.requires.came

pub of-requires-clause-rows : goal.of-requires-clause-rows
of-requires-clause-rows g c = λ _. none_gone c.args.job.now.plan.now c.args.left.nodes.items c.requires.course.nodes_are c.requires.held

pub of-requires-clause-came : goal.of-requires-clause-came
of-requires-clause-came g c =
    all_came c.args.job.now.plan.now (inputs_in c.args.job.now.trades.now) c.args.job.now.script.now (ran_of g.K.Keeps.kept c.args.left) c.stages-stages.ensures.limits
    (legal_ran g.K.Keeps.kept c.args.job.now.plan.now (inputs_in c.args.job.now.trades.now) c.args.job.now.script.now c.args.left c.requires) c.requires.came

pub returns-clause-ended : goal.returns-clause-ended
returns-clause-ended g c = run_ends c.args.job.now.plan.now (inputs_in c.args.job.now.trades.now) c.args.job.now.script.now (ran_of g.K.Keeps.kept c.args.left) c.stages-stages.ensures.limits
    (legal_ran g.K.Keeps.kept c.args.job.now.plan.now (inputs_in c.args.job.now.trades.now) c.args.job.now.script.now c.args.left c.requires) c.requires.came
    c.in_ok-core.core c.drain.new.core c.new-events.result.events c.drain.new.events.events c.in_ok-drained.drained
    c.in_ok-core.ensures (ap (λ (b : BlocksView). b.events) c.new-events.ensures) c.drain.ensures.plan c.drain.ensures.inputs c.in_ok-drained.ensures.drained

pub returns-clause-goes_on : goal.returns-clause-goes_on
returns-clause-goes_on g c = goes_on c.args.job.now.plan.now (inputs_in c.args.job.now.trades.now) c.args.job.now.script.now (ran_of g.K.Keeps.kept c.args.left) c.stages-stages.ensures.limits
    (legal_ran g.K.Keeps.kept c.args.job.now.plan.now (inputs_in c.args.job.now.trades.now) c.args.job.now.script.now c.args.left c.requires) c.requires.came
    c.in_ok-core.core c.drain.new.core c.new-events.result.events c.drain.new.events.events c.in_ok-drained.drained
    c.in_ok-core.ensures (ap (λ (b : BlocksView). b.events) c.new-events.ensures) c.drain.ensures.plan c.drain.ensures.inputs c.in_ok-drained.ensures.drained

pub returns-clause-front : goal.returns-clause-front
returns-clause-front g c = run_front c.args.job.now.plan.now (inputs_in c.args.job.now.trades.now) c.args.job.now.script.now (ran_of g.K.Keeps.kept c.args.left)
    (legal_ran g.K.Keeps.kept c.args.job.now.plan.now (inputs_in c.args.job.now.trades.now) c.args.job.now.script.now c.args.left c.requires)

pub returns-in_err-core-clause-front : goal.returns-in_err-core-clause-front
returns-in_err-core-clause-front g c = run_front c.args.job.now.plan.now (inputs_in c.args.job.now.trades.now) c.args.job.now.script.now (ran_of g.K.Keeps.kept c.args.left)
    (legal_ran g.K.Keeps.kept c.args.job.now.plan.now (inputs_in c.args.job.now.trades.now) c.args.job.now.script.now c.args.left c.requires)

pub returns-in_err-drained-clause-front : goal.returns-in_err-drained-clause-front
returns-in_err-drained-clause-front g c = run_front c.args.job.now.plan.now (inputs_in c.args.job.now.trades.now) c.args.job.now.script.now (ran_of g.K.Keeps.kept c.args.left)
    (legal_ran g.K.Keeps.kept c.args.job.now.plan.now (inputs_in c.args.job.now.trades.now) c.args.job.now.script.now c.args.left c.requires)

pub invariant_of-result : goal.invariant_of-result
invariant_of-result g c = mergeable c.args.job.now.plan.now (inputs_in c.args.job.now.trades.now) c.args.job.now.script.now (ran_of g.K.Keeps.kept c.args.left)
    (legal_ran g.K.Keeps.kept c.args.job.now.plan.now (inputs_in c.args.job.now.trades.now) c.args.job.now.script.now c.args.left c.requires)
