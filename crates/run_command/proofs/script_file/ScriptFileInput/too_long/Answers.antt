use Rattle.run_command.proofs.ScriptFaults.{long_script}
use Rattle.run_command.proofs.script_file.ScriptFileInput.too_long.Goals as goal

pub returns : goal.returns
returns c bytes long = long_script c.args.self.now.plan.now c.args.name.now bytes c.args.seen c.refused.result long c.refused.ensures
