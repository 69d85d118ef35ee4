use Rattle.trade_text.specs.Limits.{max_input_bytes}
use Rattle.command_course.specs.Inputs.{trades_from}
use Rattle.look_command.specs.Check.{trades_faults}
use Rattle.look_command.specs.Kinds.{told_from}
use Rattle.look_command.proofs.Told.{file_gives, file_keeps, file_short, file_stops, gives_told, stops_told}
use Rattle.look_command.proofs.kinds.ToldTradesInput.value.Goals as goal

pub returns-in-Ok-clause-gives : goal.returns-in-Ok-clause-gives
returns-in-Ok-clause-gives c =
    let faults = trades_faults c.args.self.now.all in
    file_gives c.args.name.now c.args.bytes.now (told_from max_input_bytes faults trades_from c.args.name.now c.args.bytes.now) c.in-Ok.trades c.with_file.result
    (gives_told max_input_bytes faults trades_from c.args.name.now c.args.bytes.now c.in-Ok.trades c.in-Ok.ensures.gives) c.with_file.ensures.given

pub returns-in-Ok-clause-keeps : goal.returns-in-Ok-clause-keeps
returns-in-Ok-clause-keeps c =
    let faults = trades_faults c.args.self.now.all in
    file_keeps c.args.name.now c.args.bytes.now (told_from max_input_bytes faults trades_from c.args.name.now c.args.bytes.now) c.in-Ok.trades c.with_file.result
    c.in-Ok.ensures.keeps c.with_file.ensures.given

pub returns-in-Ok-clause-stops : goal.returns-in-Ok-clause-stops
returns-in-Ok-clause-stops c =
    let faults = trades_faults c.args.self.now.all in
    file_short c.args.name.now c.args.bytes.now (told_from max_input_bytes faults trades_from c.args.name.now c.args.bytes.now) c.in-Ok.trades c.with_file.result
    c.with_file.ensures.want

pub returns-in-Err-clause-stops : goal.returns-in-Err-clause-stops
returns-in-Err-clause-stops c =
    let faults = trades_faults c.args.self.now.all in
    file_stops c.args.name.now c.args.bytes.now (told_from max_input_bytes faults trades_from c.args.name.now c.args.bytes.now) c.told.result
    (stops_told max_input_bytes faults trades_from c.args.name.now c.args.bytes.now c.in-Err.stop c.told.result c.trades_faults-fault.result c.is_long.result c.is_long.ensures c.in-Err.ensures.stops
    c.trades_faults-fault.ensures c.told.ensures)
