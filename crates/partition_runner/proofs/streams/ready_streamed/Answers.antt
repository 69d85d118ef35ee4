use Rattle.std.proofs.Common.{None, false, refl}
use Rattle.partition_runner.proofs.Ends.{fresh_supply}
use Rattle.partition_runner.proofs.Opening.{opens}
use Rattle.partition_runner.proofs.streams.ready_streamed.Goals as goal

pub make_ready-requires-clause-ingress : goal.make_ready-requires-clause-ingress
make_ready-requires-clause-ingress g c κs within =
    let made = c.in_ok-ingress.ensures in
    (made.id, opens c.args.job.now.plan.now g.N.RunNames.plan c.in_ok-ingress.ingress _ c.requires.job.plan_is made.id made.of_plan (λ inputs may. made.stands inputs) made.gone)

pub make_ready-requires-clause-fits : goal.make_ready-requires-clause-fits
make_ready-requires-clause-fits g c κs within =
    let made = c.in_ok-ingress.ensures in
    fresh_supply g.S.Source.gave g.S.Source.ended (record { source = c.args.source; held = None; over = false }) c.in_ok-ingress.ingress c.requires.source refl refl made.id made.admits
