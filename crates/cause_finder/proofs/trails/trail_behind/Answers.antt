use Rattle.std.proofs.Common.{◌≡◌, ◌∙◌, ℕ, None, Some, get_or, pos, slice_get, subst, sym}
use Rattle.std.proofs.lemmas.Option.{get_or_from_slice_get}
use Rattle.cause_finder.specs.Trails.{Tells}
use Rattle.cause_finder.specs.declared.trails.Trail.{Trail}
use Rattle.cause_finder.proofs.CausesFound.{of_some}
use Rattle.cause_finder.proofs.trails.trail_behind.Goals as goal

abbrev none : Trail
none = record { before = None; count = 0; from = 0; level = pos 0 }

pub returns-in-Some-clause-next : goal.returns-in-Some-clause-next
returns-in-Some-clause-next c place trail at is own y x row told =
    let here : place ≡ c.in-Some.place = of_some place c.in-Some.place (sym at ∙ c.in-Some.is) in
    let same : trail ≡ get_or c.args.trails.now c.in-Some.place none =
    sym (get_or_from_slice_get c.args.trails.now c.in-Some.place trail none (subst (λ (n : ℕ). slice_get c.args.trails.now n ≡ Some trail) here is)) in
    c.next_trail.ensures.tells own y x row (subst (Tells c.args.op.now own y) same told)
