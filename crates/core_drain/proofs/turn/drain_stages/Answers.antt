use Rattle.std.proofs.Common.{◌≡◌, ◌+◌, arith, ap, length}
use Rattle.plan_reader.specs.PlanView.{PlanView}
use Rattle.core_drain.specs.Progress.{done_before}
use Rattle.core_drain.proofs.Along.{keeps_none, keeps_on, on_err}
use Rattle.core_drain.proofs.Turns.{listed_on}
use Rattle.core_drain.proofs.turn.drain_stages.Goals as goal

pub loop-before-init : goal.loop-before-init
loop-before-init g c = record { keeps = keeps_none c.args.core.now c.known.ensures; after = λ b m a. a }

pub drain_stage-requires-clause-last : goal.drain_stage-requires-clause-last
drain_stage-requires-clause-last g c =
    let same = ap (λ (p : PlanView). length p.stages) c.loop-before.invariant.keeps.plan in
    let few = c.loop-before-test.true in
    let all = c.requires.all in omega arith

pub returns-in_err-drain_stage-clause-within : goal.returns-in_err-drain_stage-clause-within
returns-in_err-drain_stage-clause-within g c = on_err c.from_residual.result (λ b m a. c.in_err-drain_stage.ensures.within b m (c.loop-before.invariant.after b m a))

pub returns-in_err-drain_stage-clause-keeps : goal.returns-in_err-drain_stage-clause-keeps
returns-in_err-drain_stage-clause-keeps g c = keeps_on c.args.core.now c.loop-before.core c.drain_stage.new.core c.loop-before.invariant.keeps c.drain_stage.ensures.keeps

pub loop-before-preserved : goal.loop-before-preserved
loop-before-preserved g c = record {
  keeps = keeps_on c.args.core.now c.loop-before.core c.drain_stage.new.core c.loop-before.invariant.keeps c.drain_stage.ensures.keeps;
  after = λ b m a. c.in_ok-drain_stage.ensures.done b m (c.loop-before.invariant.after b m a);
}

pub returns-clause-done : goal.returns-clause-done
returns-clause-done g c = λ b m a.
    (let all : c.loop-before.before ≡ c.args.stages = omega (arith, c.loop-before-test.false, c.loop-before.auto.before-end) in
    listed_on b c.loop-before.core c.loop-before.events.events (done_before b (c.loop-before.before + 1) 0) (done_before b (c.args.stages + 1) 0) (ap (λ n. done_before b (n + 1) 0) all) (c.loop-before.invariant.after b m a))

pub returns-clause-keeps : goal.returns-clause-keeps
returns-clause-keeps g c = c.loop-before.invariant.keeps
