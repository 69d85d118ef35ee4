use Rattle.failure_script.specs.Limits.{max_script_bytes}
use Rattle.run_command.specs.Scripts.{script_from}
use Rattle.input_faults.specs.WordFaults.{script_fault}
use Rattle.look_command.proofs.Told.{gives_told, stops_told}
use Rattle.look_command.proofs.kinds.ToldScriptInput.value.Goals as goal

pub returns-in-Ok-clause-gives : goal.returns-in-Ok-clause-gives
returns-in-Ok-clause-gives c = gives_told max_script_bytes (script_fault c.args.self.now.plan.now) (script_from c.args.self.now.plan.now) c.args.name.now c.args.bytes.now c.in-Ok.value c.in-Ok.ensures.gives

pub returns-in-Err-clause-stops : goal.returns-in-Err-clause-stops
returns-in-Err-clause-stops c =
    stops_told max_script_bytes (script_fault c.args.self.now.plan.now) (script_from c.args.self.now.plan.now) c.args.name.now c.args.bytes.now c.in-Err.stop c.told.result c.script_fault-fault.result c.is_long.result c.is_long.ensures c.in-Err.ensures.stops
    c.script_fault-fault.ensures.line c.told.ensures
