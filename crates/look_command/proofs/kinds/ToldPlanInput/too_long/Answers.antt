use Rattle.plan_reader.specs.Limits.{max_plan_bytes}
use Rattle.command_course.specs.Inputs.{plan_from}
use Rattle.input_faults.specs.WordFaults.{plan_fault}
use Rattle.look_command.proofs.Told.{stops_long}
use Rattle.look_command.proofs.kinds.ToldPlanInput.too_long.Goals as goal

pub returns : goal.returns
returns c = λ bytes long. stops_long max_plan_bytes plan_fault plan_from c.args.name.now bytes c.too_long.result long (c.too_long.ensures bytes long)
