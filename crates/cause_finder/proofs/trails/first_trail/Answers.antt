use Rattle.std.proofs.Common.{rules, ◌≡◌, ◌∙◌, ap, sym}
use Rattle.cause_finder.specs.Trails.{window_in}
use Rattle.cause_finder.proofs.TrailSteps.{first_tells}
use Rattle.cause_finder.proofs.trails.first_trail.Goals as goal

pub returns-clause-tells : goal.returns-clause-tells
returns-clause-tells c x is =
    let w : c.window_in.result ≡ window_in c.args.op.now x.row = c.window_in.ensures ∙ ap (window_in c.args.op.now) (sym is) in
    first_tells c.args.op.now x _ (search rules) (search rules) (search (rules, w))
