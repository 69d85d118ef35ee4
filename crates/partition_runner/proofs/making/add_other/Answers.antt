use Rattle.std.proofs.Common.{◌∙◌, sym}
use Rattle.partition_runner.proofs.Opening.{opens}
use Rattle.partition_runner.proofs.making.add_other.Goals as goal

pub add_draft-requires-clause-opening : goal.add_draft-requires-clause-opening
add_draft-requires-clause-opening g c κs within =
    let made = c.in_ok-state.ensures in
    opens c.args.plan.now g.N.RunNames.plan c.in_ok-state.state c.args.id c.requires.plan made.id made.of_plan (λ inputs may. made.stands inputs) made.gone

pub add_draft-requires-clause-fits : goal.add_draft-requires-clause-fits
add_draft-requires-clause-fits g c κs within = c.nothing.ensures c.in_ok-state.state (λ is. c.requires.other (sym c.in_ok-state.ensures.id ∙ is))
