use Rattle.flux_top.proofs.stops.say_stop.Goals as goal

pub returns-in-Usage-clause-line : goal.returns-in-Usage-clause-line
returns-in-Usage-clause-line g c = rw c.in-Usage.is c.say.ensures

pub returns-in-CannotWrite-clause-line : goal.returns-in-CannotWrite-clause-line
returns-in-CannotWrite-clause-line g c = rw c.in-CannotWrite.is c.say-in-CannotWrite.ensures

pub returns-in-OutOfMemory-clause-line : goal.returns-in-OutOfMemory-clause-line
returns-in-OutOfMemory-clause-line g c = rw c.in-OutOfMemory.is c.say-in-OutOfMemory.ensures
