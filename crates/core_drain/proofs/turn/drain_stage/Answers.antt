use Rattle.std.proofs.Common.{◌≡◌, ap, ◌∙◌, ◌+◌, true, arith, subst, sym}
use Rattle.plan_reader.specs.Nodes.{has_pair, parts_of}
use Rattle.plan_reader.specs.PlanView.{PlanView}
use Rattle.core_drain.specs.Progress.{done_before}
use Rattle.core_drain.proofs.Along.{keeps_none, keeps_on, on_err}
use Rattle.core_drain.proofs.Turns.{listed_on, pair_of, parts_at, stage_listed}
use Rattle.core_drain.proofs.turn.drain_stage.Goals as goal

pub loop-part-init : goal.loop-part-init
loop-part-init g c = record { keeps = keeps_none c.args.core.now c.known.ensures; after = λ b m a. a }

pub drain_pair-requires : goal.drain_pair-requires
drain_pair-requires g c = record {
  there = subst (λ p. has_pair p c.args.stage c.loop-part.part ≡ true) (sym c.loop-part.invariant.keeps.plan)
      (pair_of c.args.core.now.plan c.args.stage c.loop-part.part c.requires.first c.requires.last (let few = c.loop-part-test.true in let all = c.parts-parts.ensures.value ∙ ap (λ (p : PlanView). parts_of p c.args.stage) c.plan.ensures in omega arith));
}

pub returns-in_err-drain_pair-clause-within : goal.returns-in_err-drain_pair-clause-within
returns-in_err-drain_pair-clause-within g c = on_err c.from_residual.result (λ b m a. c.in_err-drain_pair.ensures.within b m (c.loop-part.invariant.after b m a))

pub returns-in_err-drain_pair-clause-keeps : goal.returns-in_err-drain_pair-clause-keeps
returns-in_err-drain_pair-clause-keeps g c = keeps_on c.args.core.now c.loop-part.core c.drain_pair.new.core c.loop-part.invariant.keeps c.drain_pair.ensures.keeps

pub loop-part-preserved : goal.loop-part-preserved
loop-part-preserved g c = record {
  keeps = keeps_on c.args.core.now c.loop-part.core c.drain_pair.new.core c.loop-part.invariant.keeps c.drain_pair.ensures.keeps;
  after = λ b m a. c.in_ok-drain_pair.ensures.done b m (c.loop-part.invariant.after b m a);
}

pub returns-clause-done : goal.returns-clause-done
returns-clause-done g c = λ b m a.
    (let x = c.loop-part.invariant.after b m a in
    let all : c.loop-part.part ≡ c.parts-parts.result = omega (arith, c.loop-part-test.false, c.loop-part.auto.part-end) in
    let count = all ∙ (c.parts-parts.ensures.value ∙ ap (λ (p : PlanView). parts_of p c.args.stage) c.plan.ensures ∙ parts_at b c.args.core.now.plan a.plan c.args.stage) in
    listed_on b c.loop-part.core c.loop-part.events.events (done_before b c.args.stage c.loop-part.part) (done_before b (c.args.stage + 1) 0) (stage_listed b c.args.stage c.loop-part.part c.requires.first count) x)

pub returns-clause-keeps : goal.returns-clause-keeps
returns-clause-keeps g c = c.loop-part.invariant.keeps
