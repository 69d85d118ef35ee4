use Rattle.std.proofs.Common.{sym}
use Rattle.trade_text.proofs.Times.{late_number, number_is_time}
use Rattle.trade_text.proofs.fields.time_of.Goals as goal

pub returns-in-Ok-clause-value : goal.returns-in-Ok-clause-value
returns-in-Ok-clause-value c = sym (number_is_time c.args.text.now c.in-Ok.seconds (sym c.in-Ok.ensures.value))

pub returns-in-Err-Range-clause-value : goal.returns-in-Err-Range-clause-value
returns-in-Err-Range-clause-value c = sym (late_number c.args.text.now cc)
