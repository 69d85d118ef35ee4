use Rattle.std.proofs.Common.{◌≡◌, arith, sym, subst, None}
use Rattle.pair_machine.specs.Consumers.{first_below}
use Rattle.pair_machine.specs.Drain.{partition}
use Rattle.trio_machine.specs.Drain.{is_serving}
use Rattle.trio_machine.specs.Numbers.{group_size}
use Rattle.trio_drain.proofs.Found.{found_here}
use Rattle.trio_drain.proofs.serving.first_serving.Goals as goal

pub returns-then-serves : goal.returns-then-serves
returns-then-serves c = λ s stands. found_here (is_serving s (partition c.args.stage c.args.part)) c.loop-copy.copy group_size c.serves.result c.loop-copy-test.true (c.loop-copy.invariant s stands) (c.serves.ensures s stands) c.if-serves.true

pub returns : goal.returns
returns c = λ s stands.
    (let last : c.loop-copy.copy ≡ group_size = omega (arith, c.loop-copy-test.false, c.loop-copy.auto.copy-end) in
    sym (subst (λ n. first_below (is_serving s (partition c.args.stage c.args.part)) n ≡ None) last (c.loop-copy.invariant s stands)))
