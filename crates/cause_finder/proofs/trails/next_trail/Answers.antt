use Rattle.std.proofs.Common.{rules, ◌≡◌, ◌∙◌, ℤ, ap, int_lt, sym}
use Rattle.cause_finder.specs.Trails.{window_in}
use Rattle.cause_finder.proofs.TrailSteps.{next_tells}
use Rattle.cause_finder.proofs.trails.next_trail.Goals as goal

pub returns-clause-tells : goal.returns-clause-tells
returns-clause-tells c own y x is told =
    let w : c.window_in-window.result ≡ window_in c.args.op.now x.row = c.window_in-window.ensures ∙ ap (window_in c.args.op.now) (sym is) in
    next_tells c.args.op.now own y x c.args.last.now _ _ told (search rules) (search rules) (ap (λ (z : ℤ). int_lt c.args.last.now.level z) (sym w)) (search rules)
