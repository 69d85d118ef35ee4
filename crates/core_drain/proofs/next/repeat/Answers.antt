use Rattle.core_drain.proofs.Along.{keeps_none, keeps_on, left_ends, left_next, left_none, left_within, named_on, next_of, none_of, on_err, there_at, within_same}
use Rattle.core_drain.proofs.next.repeat.Goals as goal

pub loop-turn-init : goal.loop-turn-init
loop-turn-init g c = record {
  keeps = keeps_none c.args.core.now c.known.ensures;
  left = λ b done n m a block. left_none b done c.args.event n c.args.core.now c.args.events.now.events a;
}

pub apply_next-requires-clause-named : goal.apply_next-requires-clause-named
apply_next-requires-clause-named g c = named_on c.args.core.now c.loop-turn.core c.args.event c.loop-turn.invariant.keeps c.requires.named

pub returns-in_err-apply_next-clause-within : goal.returns-in_err-apply_next-clause-within
returns-in_err-apply_next-clause-within g c = on_err c.from_residual.result (λ b done n m a block.
    (let l = c.loop-turn.invariant.left b done n m a block in
    let same = c.in_err-apply_next.ensures.unchanged in
    within_same b c.loop-turn.core c.apply_next.new.core c.loop-turn.events.events c.apply_next.new.events.events same.0 same.1 (left_within b m done c.args.event n block c.loop-turn.core c.loop-turn.events.events l)))

pub returns-in_err-apply_next-clause-keeps : goal.returns-in_err-apply_next-clause-keeps
returns-in_err-apply_next-clause-keeps g c = keeps_on c.args.core.now c.loop-turn.core c.apply_next.new.core c.loop-turn.invariant.keeps c.apply_next.ensures.keeps

pub returns-then-not-branch-clause-done : goal.returns-then-not-branch-clause-done
returns-then-not-branch-clause-done g c = λ b done n m a block.
    (let l = c.loop-turn.invariant.left b done n m a block in
    let none = none_of c.loop-turn.core c.apply_next.new.core c.loop-turn.events.events c.apply_next.new.events.events c.args.event c.in_ok-apply_next.field-0 c.in_ok-apply_next.ensures.tried c.if-not-branch.true in
    left_ends b m done c.args.event n block c.loop-turn.core c.loop-turn.events.events l c.apply_next.new.core c.apply_next.new.events.events none)

pub returns-then-not-branch-clause-keeps : goal.returns-then-not-branch-clause-keeps
returns-then-not-branch-clause-keeps g c = keeps_on c.args.core.now c.loop-turn.core c.apply_next.new.core c.loop-turn.invariant.keeps c.apply_next.ensures.keeps

pub loop-turn-preserved : goal.loop-turn-preserved
loop-turn-preserved g c = record {
  keeps = keeps_on c.args.core.now c.loop-turn.core c.apply_next.new.core c.loop-turn.invariant.keeps c.apply_next.ensures.keeps;
  left = λ b done n m a block.
      (let l = c.loop-turn.invariant.left b done n m a block in
      let next = next_of c.loop-turn.core c.apply_next.new.core c.loop-turn.events.events c.apply_next.new.events.events c.args.event c.in_ok-apply_next.field-0 c.in_ok-apply_next.ensures.tried c.if-not-branch.false in
      let there = there_at b m c.args.core.now a.plan c.args.event c.requires.named in
      left_next b m done c.args.event n block c.loop-turn.core c.loop-turn.events.events l c.apply_next.new.core c.apply_next.new.events.events there c.apply_next.ensures.keeps next);
}

pub returns-clause-within : goal.returns-clause-within
returns-clause-within g c = λ b done n m a block. left_within b m done c.args.event n block c.loop-turn.core c.loop-turn.events.events (c.loop-turn.invariant.left b done n m a block)

pub returns-clause-keeps : goal.returns-clause-keeps
returns-clause-keeps g c = c.loop-turn.invariant.keeps
