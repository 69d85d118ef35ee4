use Rattle.run_command.proofs.script_file.script_at.Goals as goal

pub returns-in-Some-clause-stops : goal.returns-in-Some-clause-stops
returns-in-Some-clause-stops g c = rw c.in-Some.is c.input_at.ensures.stops
