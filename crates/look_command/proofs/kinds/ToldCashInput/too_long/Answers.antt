use Rattle.trade_text.specs.Limits.{max_input_bytes}
use Rattle.command_course.specs.Inputs.{cash_from}
use Rattle.look_command.proofs.Told.{stops_long}
use Rattle.look_command.proofs.kinds.ToldCashInput.too_long.Goals as goal
use Rattle.look_command.specs.Check.{movement_faults}

pub returns : goal.returns
returns c = λ bytes long. stops_long max_input_bytes (movement_faults c.args.self.now.all c.args.self.now.room) (cash_from c.args.self.now.room) c.args.name.now bytes c.too_long.result long (c.too_long.ensures bytes long)
