use Rattle.trade_text.specs.Limits.{max_input_bytes}
use Rattle.command_course.specs.Inputs.{trades_from}
use Rattle.look_command.specs.Check.{trades_faults}
use Rattle.look_command.specs.Kinds.{told_from}
use Rattle.look_command.proofs.Told.{file_stops, stops_long}
use Rattle.look_command.proofs.kinds.ToldTradesInput.too_long.Goals as goal

pub returns : goal.returns
returns c = λ bytes long.
    let faults = trades_faults c.args.self.now.all in
    file_stops c.args.name.now bytes (told_from max_input_bytes faults trades_from c.args.name.now bytes) c.too_long.result
    (stops_long max_input_bytes faults trades_from c.args.name.now bytes c.too_long.result long (c.too_long.ensures bytes long))
