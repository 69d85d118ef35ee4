use Rattle.move_command.proofs.Refusals.{long_moves}
use Rattle.move_command.proofs.moves_file.MovesFileInput.too_long.Goals as goal

pub returns : goal.returns
returns c bytes long = long_moves c.args.self.now.plan.now c.args.name.now bytes c.args.seen c.refused.result long c.refused.ensures
