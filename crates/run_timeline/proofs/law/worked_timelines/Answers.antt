use Rattle.run_timeline.proofs.Worked.{worked_timelines}
use Rattle.run_timeline.proofs.law.worked_timelines.Goals as goal

pub returns : goal.returns
returns c = worked_timelines
