-- A chart as text: a letter a column.
use Rattle.std.specs.Prelude.{ℕ, ◌-◌, ◌%◌, ◌==◌, List, [], ◌∷◌, ◌++◌, codes, if◌then◌else◌, length, replicate, slice_index}
use Rattle.std.specs.Fmt.{decimal}
use Rattle.std.specs.List.{flat_map}
use Rattle.lane_chart.specs.declared.chart.Cell.{Cell}
use Rattle.lane_chart.specs.declared.chart.Cell.TheVariants as cell
use Rattle.lane_chart.specs.declared.chart.Tick.{Tick}
use Rattle.lane_chart.specs.ChartView.{CellKeyView, ChartView, LaneView, LetterKeyView, MarkView, Word}
use Rattle.lane_chart.specs.Heaviest.{heaviest, in_column}
use Rattle.lane_chart.specs.Places.{placed, scaled}

-- so many blanks
abbrev pub blanks : ℕ → List ℕ
blanks n = replicate n 32

-- a word with blanks after it, as wide as this
abbrev pub padded : ℕ → Word → List ℕ
padded width word = word ++ blanks (width - length word)

-- how wide the names are
abbrev pub name_width : ℕ
name_width = 8

-- the letter of a kind of cell
abbrev pub glyph : Cell → Word
glyph cell.Strong = codes "#"
glyph cell.Plain = codes "="
glyph cell.Weak = codes "~"
glyph cell.Absent = codes "."
glyph cell.Active = codes "+"
glyph cell.Idle = codes "-"

-- the letter of the heaviest of some marks, and where there are none that of a cell
abbrev pub letter_among : List MarkView → Cell → Word
letter_among [] cell = glyph cell
letter_among (mark ∷ marks) cell = (heaviest mark marks).letter

-- the letter of a column: that of its heaviest mark, and where it has none that of its cell
abbrev pub letter_at : List MarkView → ℕ → Cell → Word
letter_at marks column cell = letter_among (in_column column marks) cell

-- the line of a lane
abbrev pub lane_line : LaneView → List ℕ
lane_line lane = padded name_width lane.name ++ placed (letter_at lane.marks) 0 lane.cells ++ codes "\n"

-- the number of a place of the scale, up to the next place
abbrev pub tick_number : Tick → List ℕ
tick_number tick = padded tick.span (decimal tick.number)

-- the stroke of a place of the scale, up to the next place
abbrev pub tick_stroke : Tick → List ℕ
tick_stroke tick = padded tick.span (codes "|")

-- the two lines of the scale
abbrev pub scale_lines : List Tick → List ℕ
scale_lines ticks = blanks name_width ++ flat_map tick_number ticks ++ codes "\n" ++ blanks name_width ++ flat_map tick_stroke ticks ++ codes "\n"

-- the last of some numbers, and 0 where there are none
abbrev pub last_of : List ℕ → ℕ
last_of ns = slice_index ns (length ns - 1)

-- how many ninths of all a number is
abbrev pub ninths : (all number : ℕ) → List ℕ
ninths all number = decimal (scaled 9 all number)

-- the line of the number that rises, in ninths of what it comes to
abbrev pub steps_line : (counted : Word) → List ℕ → List ℕ
steps_line counted steps = padded name_width counted ++ flat_map (ninths (last_of steps)) steps ++ codes "  of " ++ decimal (last_of steps) ++ codes "\n"

-- how many entries of the key stand in a line
abbrev pub key_row : ℕ
key_row = 6

-- what stands before an entry of the key, by its place: a new line, or some blanks
abbrev pub key_gap : ℕ → List ℕ
key_gap place = if place % key_row == 0 then codes "\n        " else codes "   "

-- an entry of the key, by its place there
abbrev pub meaning : (place : ℕ) → (letter name : Word) → List ℕ
meaning place letter name = key_gap place ++ (letter ++ codes " " ++ name)

-- what a kind of cell means
abbrev pub cell_meaning : ℕ → CellKeyView → List ℕ
cell_meaning place key = meaning place (glyph key.cell) key.name

-- what a letter means
abbrev pub letter_meaning : ℕ → LetterKeyView → List ℕ
letter_meaning place key = meaning place key.letter key.name

-- which of several marks of a column is shown: the key has the heaviest kind first
abbrev pub key_rule : Word
key_rule = codes "\n        of several in a column the first of these is shown\n"

-- what stands above the key: a chart's title, its scale, a line for each lane and one for the number that rises
abbrev pub drawing : ChartView → List ℕ
drawing c = c.title ++ codes "\n\n" ++ scale_lines c.ticks ++ flat_map lane_line c.lanes ++ steps_line c.counted c.steps

-- the key of a chart
abbrev pub key : ChartView → List ℕ
key c = placed cell_meaning 0 c.cells ++ placed letter_meaning 0 c.letters ++ key_rule

-- The text of a chart, and under it the key.
unfoldable pub chart_text : ChartView → List ℕ
chart_text c = drawing c ++ key c
