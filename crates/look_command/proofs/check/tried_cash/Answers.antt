use Rattle.look_command.specs.Trying.{tried_of}
use Rattle.look_command.proofs.Cash.{unnamed_cash}
use Rattle.look_command.proofs.check.tried_cash.Goals as goal

pub returns-in-None-clause-gives : goal.returns-in-None-clause-gives
returns-in-None-clause-gives g c = rw c.in-None.is (unnamed_cash (g.F.Files.told c.args.files.now) c.args.all (tried_of c.args.plan.now) c.args.room)

pub returns-in-Some-clause-gives : goal.returns-in-Some-clause-gives
returns-in-Some-clause-gives g c = rw c.in-Some.is c.tried_movements.ensures.gives

pub returns-in-Some-clause-stops : goal.returns-in-Some-clause-stops
returns-in-Some-clause-stops g c = rw c.in-Some.is c.tried_movements.ensures.stops
