use Rattle.std.proofs.Common.{◌≡◌, ◌++◌, ◌∙◌, ◌+◌, arith}
use Rattle.core_drain.specs.Progress.{before_turn, pulls_of}
use Rattle.core_drain.proofs.Along.{keeps_none, keeps_on, on_err}
use Rattle.core_drain.proofs.Turns.{listed_on, loop_edge, loop_pair, pull_at, pulls_begin, pulls_end, turn_sources, turn_stage}
use Rattle.core_drain.proofs.Blocks.{pulls_up_to}
use Rattle.core_drain.proofs.turn.pull_from_each.Goals as goal

pub loop-part-init : goal.loop-part-init
loop-part-init g c = record {
  keeps = keeps_none c.args.core.now c.known.ensures;
  after = λ b m h a. listed_on b c.args.core.now c.args.events.now.events (before_turn b c.args.to) (before_turn b c.args.to ++ pulls_up_to b c.args.to 0) (pulls_begin b m c.args.to h) a;
}

pub drainer-requires : goal.drainer-requires
drainer-requires g c = loop_pair c.args.core.now.plan c.loop-part.core.plan c.plan.result.now c.args.to c.args.stage c.loop-part.part c.sources-sources.result c.loop-part.invariant.keeps.plan
    c.requires.there c.requires.consumes c.requires.stage c.requires.later c.plan.ensures c.sources-sources.ensures c.loop-part-test.true

pub repeat-requires-clause-named : goal.repeat-requires-clause-named
repeat-requires-clause-named g c =
    let pair = loop_pair c.args.core.now.plan c.loop-part.core.plan c.plan.result.now c.args.to c.args.stage c.loop-part.part c.sources-sources.result c.loop-part.invariant.keeps.plan
    c.requires.there c.requires.consumes c.requires.stage c.requires.later c.plan.ensures c.sources-sources.ensures c.loop-part-test.true in
    loop_edge c.args.core.now.plan c.loop-part.core.plan c.args.to c.args.stage c.loop-part.part c.drainer.result c.loop-part.invariant.keeps.plan c.requires.there c.requires.consumes c.requires.stage c.requires.later pair

pub returns-in_err-repeat-clause-within : goal.returns-in_err-repeat-clause-within
returns-in_err-repeat-clause-within g c = on_err c.from_residual.result (λ b m h a.
    (let x = c.loop-part.invariant.after b m h a in
    let z = pull_at b m c.args.to h c.args.core.now.plan a.plan c.args.stage c.requires.stage c.loop-part.core c.loop-part.events.events c.plan.result.now c.loop-part.part c.sources-sources.result c.drainer.result
    c.requires.later c.plan.ensures c.sources-sources.ensures c.loop-part-test.true x c.drainer.ensures in
    c.in_err-repeat.ensures.within b (before_turn b c.args.to ++ pulls_up_to b c.args.to c.loop-part.part) z.count m x z.block))

pub returns-in_err-repeat-clause-keeps : goal.returns-in_err-repeat-clause-keeps
returns-in_err-repeat-clause-keeps g c = keeps_on c.args.core.now c.loop-part.core c.repeat.new.core c.loop-part.invariant.keeps c.repeat.ensures.keeps

pub loop-part-preserved : goal.loop-part-preserved
loop-part-preserved g c = record {
  keeps = keeps_on c.args.core.now c.loop-part.core c.repeat.new.core c.loop-part.invariant.keeps c.repeat.ensures.keeps;
  after = λ b m h a.
      (let x = c.loop-part.invariant.after b m h a in
      let z = pull_at b m c.args.to h c.args.core.now.plan a.plan c.args.stage c.requires.stage c.loop-part.core c.loop-part.events.events c.plan.result.now c.loop-part.part c.sources-sources.result c.drainer.result
      c.requires.later c.plan.ensures c.sources-sources.ensures c.loop-part-test.true x c.drainer.ensures in
      let done = c.in_ok-repeat.ensures.done b (before_turn b c.args.to ++ pulls_up_to b c.args.to c.loop-part.part) z.count m x z.block in
      listed_on b c.repeat.new.core c.repeat.new.events.events _ (before_turn b c.args.to ++ pulls_up_to b c.args.to (c.loop-part.part + 1)) z.listed done);
}

pub returns-clause-done : goal.returns-clause-done
returns-clause-done g c = λ b m h a.
    (let x = c.loop-part.invariant.after b m h a in
    let sources = turn_sources b m c.args.to h c.args.core.now.plan a.plan c.args.stage c.requires.stage c.plan.result.now c.sources-sources.result c.plan.ensures c.sources-sources.ensures in
    let all : c.loop-part.part ≡ c.sources-sources.result = omega (arith, c.loop-part-test.false, c.loop-part.auto.part-end) in
    let at = turn_stage b m c.args.to h c.args.core.now.plan a.plan c.args.stage c.requires.stage in
    listed_on b c.loop-part.core c.loop-part.events.events (before_turn b c.args.to ++ pulls_up_to b c.args.to c.loop-part.part) (before_turn b c.args.to ++ pulls_of b c.args.to)
    (pulls_end b m c.args.to h c.args.stage c.loop-part.part at c.requires.later (all ∙ sources)) x)

pub returns-clause-keeps : goal.returns-clause-keeps
returns-clause-keeps g c = c.loop-part.invariant.keeps
