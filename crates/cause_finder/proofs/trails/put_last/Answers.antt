use Rattle.std.proofs.Common.{◌∙◌, Bool, Some, ap, cond}
use Rattle.cause_finder.specs.Trails.{place_at}
use Rattle.cause_finder.specs.declared.trails.Spot.{Spot}
use Rattle.cause_finder.proofs.Spots.{same_spot}
use Rattle.cause_finder.proofs.trails.put_last.Goals as goal

pub returns-in-Ok-clause-puts : goal.returns-in-Ok-clause-puts
returns-in-Ok-clause-puts c q k =
    let at : Spot = record { part = q; key = k } in
    c.in-Ok.ensures.updates.0 at ∙ ap (λ (t : Bool). cond t (Some c.args.place) (place_at c.args.last.now.entries q k)) (same_spot c.args.spot q k)
