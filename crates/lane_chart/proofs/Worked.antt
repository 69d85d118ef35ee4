-- The worked charts, computed.
use Rattle.std.proofs.Common.{refl}
use Rattle.std.specs.Fmt.{digits}
use Rattle.lane_chart.specs.SvgText.{badge, badge_head, bar}
use Rattle.lane_chart.specs.Text.{chart_text}
use Rattle.lane_chart.specs.WorkedCharts.{WorkedCharts}

pub worked_charts : WorkedCharts
unfolding badge badge_head bar chart_text digits
worked_charts = record {
  as_text = refl;
  in_runs = refl;
  as_bar = refl;
  close_by = refl;
  roomy = refl;
  as_close_bar = refl;
  as_marks = refl;
  at_the_end = refl;
  in_names = refl;
}
