use Rattle.std.proofs.Common.{◌≡◌, ◌++◌, ◌+◌, arith}
use Rattle.trio_drain.specs.Order.{before_turn, pulls_of, pulls_up_to}
use Rattle.trio_drain.proofs.Along.{flow_same, keeps_none, keeps_on, listed_on, on_err}
use Rattle.trio_drain.proofs.Loops.{has_on, last_on, pull_at, pulls_end, shown_last, source_on, stage_on}
use Rattle.trio_drain.proofs.Turns.{pulls_begin}
use Rattle.trio_drain.proofs.turn.pull_all.Goals as goal

pub loop-part-init : goal.loop-part-init
loop-part-init c = record {
  keeps = keeps_none c.args.core.now c.known.ensures;
  after = λ b m h a. listed_on b c.args.core.now (before_turn b c.args.to) (before_turn b c.args.to ++ pulls_up_to b c.args.to 0) (pulls_begin b m c.args.to h) a;
}

pub sources-sources-requires-clause-high : goal.sources-sources-requires-clause-high
sources-sources-requires-clause-high c = shown_last c.args.core.now c.plan.result.now c.args.to c.args.stage c.plan.ensures c.requires.there c.requires.stage

pub feeder-from-requires-clause-last : goal.feeder-from-requires-clause-last
feeder-from-requires-clause-last c =
    let keeps = c.loop-part.invariant.keeps in
    last_on c.loop-part.core c.args.to c.args.stage (has_on c.args.core.now c.loop-part.core keeps c.args.to c.requires.there) (stage_on c.args.core.now c.loop-part.core keeps c.args.to c.args.stage c.requires.stage)

pub feeder-from-requires-clause-source : goal.feeder-from-requires-clause-source
feeder-from-requires-clause-source c = source_on c.args.core.now c.loop-part.core c.loop-part.invariant.keeps c.plan.result.now c.args.stage c.loop-part.part c.sources-sources.result c.plan.ensures c.sources-sources.ensures c.loop-part-test.true

pub repeat-requires : goal.repeat-requires
repeat-requires c =
    let keeps = c.loop-part.invariant.keeps in
    record { named = c.feeder-from.ensures.named c.args.to (has_on c.args.core.now c.loop-part.core keeps c.args.to c.requires.there) (stage_on c.args.core.now c.loop-part.core keeps c.args.to c.args.stage c.requires.stage) }

pub returns-in_err-repeat-clause-within : goal.returns-in_err-repeat-clause-within
returns-in_err-repeat-clause-within c = on_err c.from_residual.result (λ b m h a.
    (let x = c.loop-part.invariant.after b m h a in
    let z = pull_at b m c.args.to h c.args.core.now (flow_same b c.args.core.now (before_turn b c.args.to) a) c.args.stage c.requires.stage c.loop-part.core c.plan.result.now c.loop-part.part c.sources-sources.result c.feeder-from.result
    c.plan.ensures c.sources-sources.ensures c.loop-part-test.true x c.feeder-from.ensures.feeds in
    c.in_err-repeat.ensures.within b (before_turn b c.args.to ++ pulls_up_to b c.args.to c.loop-part.part) z.count m x z.block))

pub returns-in_err-repeat-clause-keeps : goal.returns-in_err-repeat-clause-keeps
returns-in_err-repeat-clause-keeps c = keeps_on c.args.core.now c.loop-part.core c.repeat.new.core c.loop-part.invariant.keeps c.repeat.ensures.keeps

pub loop-part-preserved : goal.loop-part-preserved
loop-part-preserved c = record {
  keeps = keeps_on c.args.core.now c.loop-part.core c.repeat.new.core c.loop-part.invariant.keeps c.repeat.ensures.keeps;
  after = λ b m h a.
      (let x = c.loop-part.invariant.after b m h a in
      let z = pull_at b m c.args.to h c.args.core.now (flow_same b c.args.core.now (before_turn b c.args.to) a) c.args.stage c.requires.stage c.loop-part.core c.plan.result.now c.loop-part.part c.sources-sources.result c.feeder-from.result
      c.plan.ensures c.sources-sources.ensures c.loop-part-test.true x c.feeder-from.ensures.feeds in
      let done = c.in_ok-repeat.ensures.done b (before_turn b c.args.to ++ pulls_up_to b c.args.to c.loop-part.part) z.count m x z.block in
      listed_on b c.repeat.new.core _ (before_turn b c.args.to ++ pulls_up_to b c.args.to (c.loop-part.part + 1)) z.listed done);
}

pub returns-clause-done : goal.returns-clause-done
returns-clause-done c = λ b m h a.
    (let x = c.loop-part.invariant.after b m h a in
    let all : c.loop-part.part ≡ c.sources-sources.result = omega (arith, c.loop-part-test.false, c.loop-part.auto.part-end) in
    listed_on b c.loop-part.core (before_turn b c.args.to ++ pulls_up_to b c.args.to c.loop-part.part) (before_turn b c.args.to ++ pulls_of b c.args.to)
    (pulls_end b m c.args.to h c.args.core.now (flow_same b c.args.core.now (before_turn b c.args.to) a) c.args.stage c.requires.stage c.plan.result.now c.loop-part.part c.sources-sources.result c.plan.ensures c.sources-sources.ensures all) x)

pub returns-clause-keeps : goal.returns-clause-keeps
returns-clause-keeps c = c.loop-part.invariant.keeps
