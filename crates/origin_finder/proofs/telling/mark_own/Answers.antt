use Rattle.std.proofs.Common.{List, ℕ, subst, sym}
use Rattle.cause_finder.specs.Trails.{own_before, resting}
use Rattle.origin_finder.specs.Walking.{IsMarkedBack}
use Rattle.origin_finder.proofs.Walking.{below_less, trail_of, trail_there, own_marked}
use Rattle.origin_finder.proofs.telling.mark_own.Goals as goal

pub returns-in-None : goal.returns-in-None
returns-in-None c stage rows h within had = absurd (trail_there stage rows c.args.known.now c.args.place h within c.in-None.ensures.value)

pub returns-in-Some : goal.returns-in-Some
returns-in-Some c stage rows h within had =
    let place = c.args.place in
    let has = trail_of stage rows c.args.known.now place c.in-Some.trail h within (sym c.in-Some.ensures.value) in
    let below = below_less place _ c.in-Some.trail.before within has.is.below in
    subst (λ (ns : List ℕ). IsMarkedBack stage rows ns (resting stage.op (own_before stage rows place)) c.args.roles.now c.mark_resting-low.new.roles) (sym c.keep_reached.ensures)
    (own_marked stage rows c.args.reached.now place c.mark_resting-low.result c.in-Some.trail.before c.args.roles.now c.mark_resting-low.new.roles has.is.own
    (c.mark_resting-low.ensures.from stage rows h below) (c.mark_resting-low.ensures.marks stage rows h below had))
