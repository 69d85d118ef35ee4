use Rattle.std.proofs.Common.{◌∙◌, ap, inr, refl}
use Rattle.flux_top.specs.Lines.{line_by}
use Rattle.flux_top.proofs.stops.own_stop.Goals as goal

pub returns-in-Ok : goal.returns-in-Ok
returns-in-Ok c = rw c.in-Refused.is (inr (c.in-Ok.line, refl, c.in-Ok.ensures ∙ ap (line_by c.args.name.now) c.as_str.ensures.value))

pub returns-in-Ok-line_by : goal.returns-in-Ok-line_by
returns-in-Ok-line_by c = rw c.in-CannotRead.is (inr (c.in-Ok-line_by.line, refl, c.in-Ok-line_by.ensures ∙ ap (line_by c.args.name.now) c.as_str-in-CannotRead.ensures.value))
