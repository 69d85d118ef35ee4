use Rattle.trade_text.specs.Limits.{max_input_bytes}
use Rattle.command_course.specs.Inputs.{cash_from}
use Rattle.look_command.proofs.Told.{gives_told, stops_told}
use Rattle.look_command.proofs.kinds.ToldCashInput.value.Goals as goal
use Rattle.look_command.specs.Check.{movement_faults}

pub returns-in-Ok-clause-gives : goal.returns-in-Ok-clause-gives
returns-in-Ok-clause-gives c = gives_told max_input_bytes (movement_faults c.args.self.now.all c.args.self.now.room) (cash_from c.args.self.now.room) c.args.name.now c.args.bytes.now c.in-Ok.value c.in-Ok.ensures.gives

pub returns-in-Err-clause-stops : goal.returns-in-Err-clause-stops
returns-in-Err-clause-stops c =
    stops_told max_input_bytes (movement_faults c.args.self.now.all c.args.self.now.room) (cash_from c.args.self.now.room) c.args.name.now c.args.bytes.now c.in-Err.stop c.told.result c.movement_faults-fault.result c.is_long.result c.is_long.ensures c.in-Err.ensures.stops
    c.movement_faults-fault.ensures c.told.ensures
