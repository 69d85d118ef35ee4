-- What a chart shows, with its texts as their bytes.
use Rattle.std.specs.Prelude.{ℕ, List, map, string_bytes}
use Rattle.lane_chart.specs.declared.chart.Cell.{Cell}
use Rattle.lane_chart.specs.declared.chart.CellKey.{CellKey}
use Rattle.lane_chart.specs.declared.chart.Chart.{Chart}
use Rattle.lane_chart.specs.declared.chart.Lane.{Lane}
use Rattle.lane_chart.specs.declared.chart.LetterKey.{LetterKey}
use Rattle.lane_chart.specs.declared.chart.Mark.{Mark}
use Rattle.lane_chart.specs.declared.chart.Tick.{Tick}
use Rattle.lane_chart.specs.declared.chart.Weight.{Weight}

-- the bytes of a text
abbrev pub Word : Type 0
Word = List ℕ

-- what happened in a lane, in a column
pub record MarkView : Type 0 where
  -- the column, from 0
  pub column : ℕ
  pub weight : Weight
  -- how heavy its kind is beside others: 0 is the heaviest
  pub rank : ℕ
  -- the letter that stands for it, which the key explains
  pub letter : Word
  -- what happened, in words
  pub title : Word

-- a lane: a cell for each column, and its marks
pub record LaneView : Type 0 where
  pub name : Word
  pub cells : List Cell
  pub marks : List MarkView

-- what a kind of cell means
pub record CellKeyView : Type 0 where
  pub cell : Cell
  pub name : Word

-- what a letter means
pub record LetterKeyView : Type 0 where
  pub weight : Weight
  pub letter : Word
  pub name : Word

-- lanes over columns of time, and a number that rises from column to column
pub record ChartView : Type 0 where
  pub title : Word
  -- the places of the scale
  pub ticks : List Tick
  pub lanes : List LaneView
  -- what the number counts
  pub counted : Word
  -- the number at each column's end
  pub steps : List ℕ
  -- what the kinds of cells mean
  pub cells : List CellKeyView
  -- what the letters mean, the heaviest kind first
  pub letters : List LetterKeyView

-- what a mark shows
abbrev pub mark_shown : Mark → MarkView
mark_shown m = record { column = m.column; weight = m.weight; rank = m.rank; letter = m.letter.now; title = string_bytes m.title }

-- what a lane shows
abbrev pub lane_shown : Lane → LaneView
lane_shown l = record { name = string_bytes l.name; cells = l.cells.items; marks = map mark_shown l.marks.items }

-- what an entry of the key says of a kind of cell
abbrev pub cell_key_shown : CellKey → CellKeyView
cell_key_shown k = record { cell = k.cell; name = k.name.now }

-- what an entry of the key says of a letter
abbrev pub letter_key_shown : LetterKey → LetterKeyView
letter_key_shown k = record { weight = k.weight; letter = k.letter.now; name = k.name.now }

-- what a chart shows
abbrev pub chart_shown : Chart → ChartView
chart_shown c = record {
  title = string_bytes c.title;
  ticks = c.ticks.items;
  lanes = map lane_shown c.lanes.items;
  counted = c.counted.now;
  steps = c.steps.items;
  cells = map cell_key_shown c.cells.items;
  letters = map letter_key_shown c.letters.items;
}
