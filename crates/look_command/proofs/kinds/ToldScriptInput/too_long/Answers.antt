use Rattle.failure_script.specs.Limits.{max_script_bytes}
use Rattle.run_command.specs.Scripts.{script_from}
use Rattle.input_faults.specs.WordFaults.{script_fault}
use Rattle.look_command.proofs.Told.{stops_long}
use Rattle.look_command.proofs.kinds.ToldScriptInput.too_long.Goals as goal

pub returns : goal.returns
returns c = λ bytes long. stops_long max_script_bytes (script_fault c.args.self.now.plan.now) (script_from c.args.self.now.plan.now) c.args.name.now bytes c.too_long.result long (c.too_long.ensures bytes long)
