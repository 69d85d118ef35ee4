use Rattle.trade_line.proofs.lines.LineFaultDisplay.fmt.Goals as goal

pub returns-in-Past-clause-writes : goal.returns-in-Past-clause-writes
returns-in-Past-clause-writes g c = rw c.in-Past.is c.write.ensures.writes

pub returns-in-NoRecord-clause-writes : goal.returns-in-NoRecord-clause-writes
returns-in-NoRecord-clause-writes g c = rw c.in-NoRecord.is c.write-in-NoRecord.ensures.writes
