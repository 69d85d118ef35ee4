use Rattle.pair_machine.specs.Drain.{partition}
use Rattle.flux_core.proofs.Placed.{emitted_front}
use Rattle.flux_core.proofs.Promised.{holds_what_is_owed, merges_in_order}
use Rattle.core_drain.proofs.Along.{on_err}
use Rattle.core_drain.proofs.Whole.{cut_short, lost_so, whole_after, whole_already}
use Rattle.core_drain.proofs.draining.drain.Goals as goal

pub returns-then-done-clause-drained : goal.returns-then-done-clause-drained
returns-then-done-clause-drained g c = whole_already c.args.core.now c.known.ensures c.args.events.now.events c.egress.result.now c.egress.ensures c.done.result c.done.ensures.whole c.if-done.true c.done.ensures.output

pub returns-then-done-clause-emitted : goal.returns-then-done-clause-emitted
returns-then-done-clause-emitted g c = emitted_front c.args.core.now c.known.ensures

pub returns-then-done-clause-merged : goal.returns-then-done-clause-merged
returns-then-done-clause-merged g c = merges_in_order c.args.core.now c.known.ensures

pub returns-then-done-clause-owed : goal.returns-then-done-clause-owed
returns-then-done-clause-owed g c = holds_what_is_owed c.args.core.now c.known.ensures

pub returns-in-Some-clause-drained : goal.returns-in-Some-clause-drained
returns-in-Some-clause-drained g c = lost_so c.args.core.now c.known.ensures c.args.events.now.events c.egress.result.now c.egress.ensures c.done.result c.done.ensures.whole c.if-done.false (partition c.in-Some.stage c.in-Some.part) c.in-Some.ensures

pub returns-in-Some-clause-emitted : goal.returns-in-Some-clause-emitted
returns-in-Some-clause-emitted g c = emitted_front c.args.core.now c.known.ensures

pub returns-in-Some-clause-merged : goal.returns-in-Some-clause-merged
returns-in-Some-clause-merged g c = merges_in_order c.args.core.now c.known.ensures

pub returns-in-Some-clause-owed : goal.returns-in-Some-clause-owed
returns-in-Some-clause-owed g c = holds_what_is_owed c.args.core.now c.known.ensures

pub returns-in_err-drain_all-clause-cut_short : goal.returns-in_err-drain_all-clause-cut_short
returns-in_err-drain_all-clause-cut_short g c = on_err c.from_residual.result
    (cut_short c.args.core.now c.known.ensures c.args.events.now.events c.egress.result.now c.egress.ensures c.done.result c.done.ensures.whole c.if-done.false c.in_default.ensures c.drain_all.new.core c.drain_all.new.events.events c.in_err-drain_all.ensures.within)

pub returns-in_err-drain_all-clause-emitted : goal.returns-in_err-drain_all-clause-emitted
returns-in_err-drain_all-clause-emitted g c = emitted_front c.drain_all.new.core c.drain_all.ensures.keeps.core

pub returns-in_err-drain_all-clause-merged : goal.returns-in_err-drain_all-clause-merged
returns-in_err-drain_all-clause-merged g c = merges_in_order c.drain_all.new.core c.drain_all.ensures.keeps.core

pub returns-in_err-drain_all-clause-owed : goal.returns-in_err-drain_all-clause-owed
returns-in_err-drain_all-clause-owed g c = holds_what_is_owed c.drain_all.new.core c.drain_all.ensures.keeps.core

pub returns-clause-drained : goal.returns-clause-drained
returns-clause-drained g c = whole_after c.args.core.now c.known.ensures c.args.events.now.events c.egress.result.now c.egress.ensures c.done.result c.done.ensures.whole c.if-done.false c.in_default.ensures c.drain_all.new.core c.drain_all.new.events.events c.in_ok-drain_all.ensures.done

pub returns-clause-emitted : goal.returns-clause-emitted
returns-clause-emitted g c = emitted_front c.drain_all.new.core c.drain_all.ensures.keeps.core

pub returns-clause-merged : goal.returns-clause-merged
returns-clause-merged g c = merges_in_order c.drain_all.new.core c.drain_all.ensures.keeps.core

pub returns-clause-owed : goal.returns-clause-owed
returns-clause-owed g c = holds_what_is_owed c.drain_all.new.core c.drain_all.ensures.keeps.core
