-- Charts worked by hand.
use Rattle.std.specs.Prelude.{ℕ, ◌≡◌, List, [], ◌∷◌, ◌++◌, codes}
use Rattle.std.specs.List.{flat_map}
use Rattle.lane_chart.specs.declared.chart.Cell.{Cell}
use Rattle.lane_chart.specs.declared.chart.Cell.TheVariants as cell
use Rattle.lane_chart.specs.declared.chart.Weight.TheVariants as weight
use Rattle.lane_chart.specs.declared.runs.Run.{Run}
use Rattle.lane_chart.specs.ChartView.{ChartView, MarkView}
use Rattle.lane_chart.specs.Escape.{escaped}
use Rattle.lane_chart.specs.Runs.{runs}
use Rattle.lane_chart.specs.Layouts.{layout_of}
use Rattle.lane_chart.specs.SvgText.{bar, badges}
use Rattle.lane_chart.specs.declared.layout.Layout.TheVariants.{Close, Roomy}
use Rattle.lane_chart.specs.Text.{chart_text}

-- lines, each of which ends in LF
abbrev pub lines : List (List ℕ) → List ℕ
lines texts = flat_map (λ line. line ++ codes "\n") texts

-- a lane that leads, goes, comes back and runs
abbrev pub six_cells : List Cell
six_cells = cell.Strong ∷ cell.Strong ∷ cell.Absent ∷ cell.Weak ∷ cell.Plain ∷ cell.Plain ∷ []

-- what happens in its third column: the heavier comes behind the other
abbrev pub two_marks : List MarkView
two_marks =
    record { column = 2; weight = weight.Note; rank = 7; letter = codes "B"; title = codes "back" }
    ∷ record { column = 2; weight = weight.Alarm; rank = 1; letter = codes "X"; title = codes "a < b" } ∷ []

-- three marks of the last of 96 columns, behind seven of it
abbrev pub three_marks : List MarkView
three_marks =
    record { column = 95; weight = weight.Note; rank = 7; letter = codes "B"; title = codes "back" }
    ∷ record { column = 95; weight = weight.Alarm; rank = 1; letter = codes "X"; title = codes "failed" }
    ∷ record { column = 95; weight = weight.Turn; rank = 3; letter = codes "L"; title = codes "leads" } ∷ []

-- a chart of six columns and twelve events
abbrev pub six_columns : ChartView
six_columns = record {
  title = codes "twelve events";
  ticks = record { column = 0; span = 6; number = 0 } ∷ record { column = 6; span = 0; number = 12 } ∷ [];
  lanes = record { name = codes "a"; cells = six_cells; marks = two_marks } ∷ record { name = codes "out"; cells = []; marks = [] } ∷ [];
  counted = codes "rows";
  steps = 0 ∷ 0 ∷ 1 ∷ 2 ∷ 3 ∷ 3 ∷ [];
  cells = record { cell = cell.Strong; name = codes "leads" } ∷ record { cell = cell.Absent; name = codes "gone" } ∷ [];
  letters = record { weight = weight.Alarm; letter = codes "X"; name = codes "failed" } ∷ [];
}

-- a run of cells
abbrev pub run : Cell → (start end : ℕ) → Run
run kind start end = record { cell = kind; start = start; end = end }

-- what these charts, and parts of charts, come to as text and as SVG
pub record WorkedCharts : Type 0 where
  -- the letter of a column is that of its heaviest mark
  pub as_text : chart_text six_columns ≡ lines (
      codes "twelve events"
      ∷ codes ""
      ∷ codes "        0     12"
      ∷ codes "        |     |"
      ∷ codes "a       ##X~=="
      ∷ codes "out     "
      ∷ codes "rows    003699  of 3"
      ∷ codes ""
      ∷ codes "        # leads   . gone"
      ∷ codes "        X failed"
      ∷ codes "        of several in a column the first of these is shown"
      ∷ [])
  -- cells that are alike are one run
  pub in_runs : runs six_cells ≡ run cell.Strong 0 2 ∷ run cell.Absent 2 3 ∷ run cell.Weak 3 4 ∷ run cell.Plain 4 6 ∷ []
  -- two of six columns are 320 of 960 pixels
  pub as_bar : bar Roomy 6 (run cell.Absent 2 3) ≡ codes "<rect class='absent' y='22' height='2' x='320' width='160'/>\n"
  -- the same where lanes stand close: on a page of more than 24
  pub close_by : layout_of 25 ≡ Close
  pub roomy : layout_of 24 ≡ Roomy
  pub as_close_bar : bar Close 6 (run cell.Absent 2 3) ≡ codes "<rect class='absent' y='4' height='2' x='320' width='160'/>\n"
  -- the second mark of a column stands right of the first one, and a stroke leads from each to the column
  pub as_marks : badges Roomy 6 0 two_marks ≡ lines (
      codes "<g class='note'><title>back</title><path d='M320 31V17L320 14'/><circle cx='320' cy='7' r='7'/><text x='320' y='11'>B</text></g>"
      ∷ codes "<g class='alarm'><title>a &lt; b</title><path d='M320 31V17L335 14'/><circle cx='335' cy='7' r='7'/><text x='335' y='11'>X</text></g>"
      ∷ [])
  -- marks that would leave the page share its last place, and the heaviest of them lies on top of the others
  pub at_the_end : badges Roomy 96 1060 three_marks ≡ lines (
      codes "<g class='note'><title>back</title><path d='M950 31V17L1060 14'/><circle cx='1060' cy='7' r='7'/><text x='1060' y='11'>B</text></g>"
      ∷ codes "<g class='turn'><title>leads</title><path d='M950 31V17L1070 14'/><circle cx='1070' cy='7' r='7'/><text x='1070' y='11'>L</text></g>"
      ∷ codes "<g class='alarm'><title>failed</title><path d='M950 31V17L1070 14'/><circle cx='1070' cy='7' r='7'/><text x='1070' y='11'>X</text></g>"
      ∷ [])
  -- what markup is made of is named
  pub in_names : escaped (codes "<a b='&'>") ≡ codes "&lt;a b=&#39;&amp;&#39;&gt;"
