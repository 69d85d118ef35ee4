use Rattle.lane_chart.proofs.Worked.{worked_charts}
use Rattle.lane_chart.proofs.law.worked_charts.Goals as goal

pub returns : goal.returns
returns c = worked_charts
