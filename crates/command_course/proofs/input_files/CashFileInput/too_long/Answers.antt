use Rattle.command_course.proofs.Refusals.{long_cash}
use Rattle.command_course.proofs.input_files.CashFileInput.too_long.Goals as goal

pub returns : goal.returns
returns c = λ bytes long. long_cash c.args.self.now.room c.args.name.now bytes c.args.seen c.refused.result long c.refused.ensures
