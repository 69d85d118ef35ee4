use Rattle.command_course.proofs.Refusals.{long_plan}
use Rattle.command_course.proofs.input_files.PlanFileInput.too_long.Goals as goal

pub returns : goal.returns
returns c = λ bytes long. long_plan c.args.name.now bytes c.args.seen c.refused.result long c.refused.ensures
