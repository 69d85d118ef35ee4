use Rattle.look_command.proofs.Tries.{unnamed}
use Rattle.look_command.proofs.check.tried_script.Goals as goal

pub returns-in-Ok-clause-gives : goal.returns-in-Ok-clause-gives
returns-in-Ok-clause-gives g c = rw c.in-Ok.is c.tried_if_named.ensures.gives

pub returns-in-Ok-clause-stops : goal.returns-in-Ok-clause-stops
returns-in-Ok-clause-stops g c = rw c.in-Ok.is c.tried_if_named.ensures.stops

pub returns-in-Err-clause-gives : goal.returns-in-Err-clause-gives
returns-in-Err-clause-gives g c = rw c.in-Err.is (unnamed (g.F.Files.told c.args.files.now))
