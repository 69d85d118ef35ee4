use Rattle.trace_command.proofs.Placing.{trades_stop}
use Rattle.trace_command.proofs.lined.LinedFileInput.too_long.Goals as goal

pub returns : goal.returns
returns c = λ bytes long. trades_stop c.args.self.now.line c.args.name.now bytes c.too_long.result (c.too_long.ensures bytes long)
