use Rattle.trio_drain.proofs.Trying.{next_applied, none_refused, none_undrained}
use Rattle.trio_drain.proofs.next.apply_next.Goals as goal

pub returns-then-not-drains-clause-tried : goal.returns-then-not-drains-clause-tried
returns-then-not-drains-clause-tried c = none_undrained c.args.core.now c.args.event c.drains.result c.drains.ensures c.if-not-drains.true

pub returns-in-Ok-clause-tried : goal.returns-in-Ok-clause-tried
returns-in-Ok-clause-tried c = next_applied c.args.core.now c.apply.new.self c.args.event c.drains.result c.drains.ensures c.if-not-drains.false c.in-Ok.ensures.applied

pub returns-in_ok-refusal-in-Err-clause-tried : goal.returns-in_ok-refusal-in-Err-clause-tried
returns-in_ok-refusal-in-Err-clause-tried c = none_refused c.args.core.now c.apply.new.self c.args.event c.in-Err.error c.in-Err.ensures.unchanged c.in_ok-refusal-in-Err.ensures c.in-Err.ensures.refused
