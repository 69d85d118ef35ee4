use Rattle.run_rehearsal.proofs.follows.push_follow_line.Goals as goal

pub returns-in-Named : goal.returns-in-Named
returns-in-Named c = rw c.in-Named.is c.push_takeover.ensures

pub returns-in-Begun : goal.returns-in-Begun
returns-in-Begun c = rw c.in-Begun.is c.push_catch_up.ensures
