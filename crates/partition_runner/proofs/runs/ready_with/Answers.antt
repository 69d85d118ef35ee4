use Rattle.std.proofs.Common.{◌∙◌, refl}
use Rattle.partition_runner.proofs.Opening.{has_all, opens_on}
use Rattle.partition_runner.proofs.runs.ready_with.Goals as goal

pub make_ready-requires-clause-ingress : goal.make_ready-requires-clause-ingress
make_ready-requires-clause-ingress g c κs within =
    let made = c.in_ok-ingress.ensures in
    (made.id, opens_on c.args.plan.now g.N.RunNames.plan _ c.in_ok-ingress.ingress _ c.requires.plan made.id made.of_plan made.stands (made.only refl) made.gone)

pub make_ready-requires-clause-fits : goal.make_ready-requires-clause-fits
make_ready-requires-clause-fits g c κs within =
    let made = c.in_ok-ingress.ensures in
    has_all g.N.FedNames.inputs c.in_ok-ingress.ingress made.id made.ended (made.inputs refl ∙ c.requires.trades)
