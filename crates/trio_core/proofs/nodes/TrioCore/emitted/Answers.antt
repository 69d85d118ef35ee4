use Rattle.std.proofs.Common.{◌∙◌, ap, subst, sym}
use Rattle.ingress_egress.specs.EgressView.{IsFrontOf}
use Rattle.pair_machine.specs.Output.{output}
use Rattle.trio_core.specs.CoreView.{inputs_of}
use Rattle.trio_core.specs.Promises.{rows_of}
use Rattle.trio_core.proofs.Promised.{emits_a_front}
use Rattle.trio_core.proofs.nodes.TrioCore.emitted.Goals as goal

pub returns-clause-front : goal.returns-clause-front
returns-clause-front c =
    let core = c.args.self.now in
    subst (λ rows. IsFrontOf rows (output core.plan (inputs_of core))) (ap rows_of c.egress.ensures.value ∙ sym c.emitted.ensures) (emits_a_front core c.known.ensures)
