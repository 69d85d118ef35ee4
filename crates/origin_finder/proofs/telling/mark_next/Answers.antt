use Rattle.std.proofs.Common.{sym}
use Rattle.origin_finder.proofs.Walking.{trail_of, trail_there}
use Rattle.origin_finder.proofs.telling.mark_next.Goals as goal

pub returns-in-None-clause-marks : goal.returns-in-None-clause-marks
returns-in-None-clause-marks c stage rows h within had = absurd (trail_there stage rows c.args.known.now c.args.place h within c.in-None.ensures.value)

pub returns-in-Some-clause-back : goal.returns-in-Some-clause-back
returns-in-Some-clause-back c = c.mark_known.ensures.back c.in-Some.ensures.back

pub returns-in-Some-clause-marks : goal.returns-in-Some-clause-marks
returns-in-Some-clause-marks c stage rows h within had =
    c.mark_known.ensures.marks stage rows c.args.known.now (trail_of stage rows c.args.known.now c.args.place c.in-Some.trail h within (sym c.in-Some.ensures.value)) had
