use Rattle.std.proofs.Common.{◌≡◌, ◌∙◌, ◌&&◌, ap, subst}
use Rattle.pair_machine.specs.Drain.{is_serving, partition}
use Rattle.pair_machine.specs.Pairs.{side_of}
use Rattle.core_drain.specs.Modes.{runs}
use Rattle.core_drain.proofs.Found.{serves_found}
use Rattle.core_drain.proofs.serving.serves.Goals as goal

pub returns-then-runs : goal.returns-then-runs
returns-then-runs g c = λ s stands. subst (λ x. (x && c.counts-counted.result) ≡ is_serving (side_of s (partition c.args.stage c.args.part) c.args.which)) c.if-runs.true
    (serves_found c.args.core.now s stands c.args.stage c.args.part c.requires c.args.which c.replica-replica.result.now c.replica-replica.ensures c.control.result.now c.control.ensures.value
    c.runs.result c.counts-counted.result c.inc.result (c.runs.ensures ∙ ap runs c.mode.ensures) c.inc.ensures c.counts-counted.ensures.machine)

pub returns-else-runs : goal.returns-else-runs
returns-else-runs g c = λ s stands. c.if-runs.false ∙ subst (λ x. (x && c.counts-counted.result) ≡ is_serving (side_of s (partition c.args.stage c.args.part) c.args.which)) c.if-runs.false
    (serves_found c.args.core.now s stands c.args.stage c.args.part c.requires c.args.which c.replica-replica.result.now c.replica-replica.ensures c.control.result.now c.control.ensures.value
    c.runs.result c.counts-counted.result c.inc.result (c.runs.ensures ∙ ap runs c.mode.ensures) c.inc.ensures c.counts-counted.ensures.machine)
