use Rattle.sift_command.proofs.Refusals.{long_parts}
use Rattle.sift_command.proofs.sift.PartedFileInput.too_long.Goals as goal

pub returns : goal.returns
returns c = λ bytes long. long_parts c.args.name.now bytes c.args.seen c.refused.result long c.refused.ensures
