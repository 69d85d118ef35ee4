use Rattle.plan_reader.specs.Limits.{max_plan_bytes}
use Rattle.command_course.specs.Inputs.{plan_from}
use Rattle.input_faults.specs.WordFaults.{plan_fault}
use Rattle.look_command.proofs.Told.{gives_told, stops_told}
use Rattle.look_command.proofs.kinds.ToldPlanInput.value.Goals as goal

pub returns-in-Ok-clause-gives : goal.returns-in-Ok-clause-gives
returns-in-Ok-clause-gives c = gives_told max_plan_bytes plan_fault plan_from c.args.name.now c.args.bytes.now c.in-Ok.value c.in-Ok.ensures.gives

pub returns-in-Err-clause-stops : goal.returns-in-Err-clause-stops
returns-in-Err-clause-stops c =
    stops_told max_plan_bytes plan_fault plan_from c.args.name.now c.args.bytes.now c.in-Err.stop c.told.result c.plan_fault-fault.result c.is_long.result c.is_long.ensures c.in-Err.ensures.stops
    c.plan_fault-fault.ensures.line c.told.ensures
