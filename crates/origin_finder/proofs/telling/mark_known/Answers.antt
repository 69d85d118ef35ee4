use Rattle.std.proofs.Common.{◌∙◌, sym}
use Rattle.std.proofs.lemmas.Bool.{ltb-false, ltb-true}
use Rattle.origin_finder.proofs.Walking.{next_marked, next_past, next_reached}
use Rattle.origin_finder.proofs.telling.mark_known.Goals as goal

pub returns-then-is_past-clause-marks : goal.returns-then-is_past-clause-marks
returns-then-is_past-clause-marks c stage rows known h had =
    next_past stage rows known c.args.low c.args.place c.args.reached.now c.args.roles.now c.args.trail.now h (ltb-true c.args.trail.now.count c.args.low (sym c.is_past.ensures ∙ c.if-is_past.true)) had

pub returns-then-has_reached-clause-marks : goal.returns-then-has_reached-clause-marks
returns-then-has_reached-clause-marks c stage rows known h had =
    next_reached stage rows known c.args.low c.args.place c.args.reached.now c.args.roles.now c.mark_counted.new.self c.args.trail.now h
    (ltb-false c.args.trail.now.count c.args.low (sym c.is_past.ensures ∙ c.if-is_past.false)) c.mark_counted.ensures (sym c.has_reached.ensures ∙ c.if-has_reached.true) had

pub returns-clause-marks : goal.returns-clause-marks
returns-clause-marks c stage rows known h had =
    next_marked stage rows known c.args.low c.args.place c.args.reached.now c.args.roles.now c.mark_counted.new.self c.args.trail.now h
    (ltb-false c.args.trail.now.count c.args.low (sym c.is_past.ensures ∙ c.if-is_past.false)) c.mark_counted.ensures had
