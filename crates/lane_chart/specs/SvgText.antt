-- A chart as SVG. Lengths are in pixels, and the columns fill 960 of them.
use Rattle.std.specs.Prelude.{ℕ, ◌+◌, ◌-◌, ◌*◌, ◌/◌, ◌%◌, List, [], ◌∷◌, ◌++◌, codes, if◌then◌else◌, length, max, nat_lt}
use Rattle.std.specs.Fmt.{decimal}
use Rattle.std.specs.List.{flat_map}
use Rattle.lane_chart.specs.declared.chart.Cell.{Cell}
use Rattle.lane_chart.specs.declared.chart.Cell.TheVariants as cell
use Rattle.lane_chart.specs.declared.chart.Tick.{Tick}
use Rattle.lane_chart.specs.declared.chart.Weight.{Weight}
use Rattle.lane_chart.specs.declared.chart.Weight.TheVariants as weight
use Rattle.lane_chart.specs.declared.runs.Run.{Run}
use Rattle.lane_chart.specs.ChartView.{CellKeyView, ChartView, LaneView, LetterKeyView, MarkView, Word}
use Rattle.lane_chart.specs.Escape.{escaped}
use Rattle.lane_chart.specs.Heaviest.{heavier, lighter}
use Rattle.lane_chart.specs.Layouts.{lane_pitch, layout_of, mark_room}
use Rattle.lane_chart.specs.declared.layout.Layout.{Layout}
use Rattle.lane_chart.specs.declared.layout.Layout.TheVariants.{Close, Roomy}
use Rattle.lane_chart.specs.Places.{placed, scaled}
use Rattle.lane_chart.specs.Runs.{runs}
use Rattle.lane_chart.specs.Text.{last_of}

-- where a column begins, of so many
abbrev pub across : (columns column : ℕ) → ℕ
across columns column = scaled 960 columns column

-- the beginning of a part of the page that stands so far right and down of the one around it
unfoldable pub group_at : (right down : ℕ) → List ℕ
group_at right down = codes "<g transform='translate(" ++ (decimal right ++ (codes " " ++ (decimal down ++ codes ")'>")))

-- ---- bars

-- the shape of a kind of cell: its colour's name, and its height, which tells it from the others where there are no colours
abbrev pub shape : Layout → Cell → Word
shape Roomy cell.Strong = codes "class='strong' y='16' height='14'"
shape Roomy cell.Plain = codes "class='plain' y='19' height='8'"
shape Roomy cell.Weak = codes "class='weak' y='16' height='14'"
shape Roomy cell.Absent = codes "class='absent' y='22' height='2'"
shape Roomy cell.Active = codes "class='active' y='18' height='10'"
shape Roomy cell.Idle = codes "class='idle' y='22' height='2'"
shape Close cell.Strong = codes "class='strong' y='1' height='8'"
shape Close cell.Plain = codes "class='plain' y='3' height='4'"
shape Close cell.Weak = codes "class='weak' y='1' height='8'"
shape Close cell.Absent = codes "class='absent' y='4' height='2'"
shape Close cell.Active = codes "class='active' y='2' height='6'"
shape Close cell.Idle = codes "class='idle' y='4' height='2'"

-- the bar of a run of cells
unfoldable pub bar : Layout → (columns : ℕ) → Run → List ℕ
bar layout columns run =
    codes "<rect " ++ shape layout run.cell ++ codes " x='" ++ decimal (across columns run.start) ++ codes "' width='"
    ++ decimal (across columns run.end - across columns run.start) ++ codes "'/>\n"

-- ---- marks

-- the colour's name of a weight
abbrev pub colour : Weight → Word
colour weight.Alarm = codes "alarm"
colour weight.Turn = codes "turn"
colour weight.Note = codes "note"

-- where lanes stand close: a stroke below the lane, from the place where a mark belongs to the place where there is room for it
unfoldable pub close_stroke : (at room : ℕ) → List ℕ
close_stroke at room = codes "<path d='M" ++ (decimal at ++ (codes " 10H" ++ (decimal room ++ codes "'/>")))

-- the disc of its letter there
unfoldable pub close_disc : (room : ℕ) → List ℕ
close_disc room = codes "<circle cx='" ++ (decimal room ++ codes "' cy='5' r='5'/>")

-- and the beginning of the letter
unfoldable pub close_letter : (room : ℕ) → List ℕ
close_letter room = codes "<text class='close' x='" ++ (decimal room ++ codes "' y='8'>")

-- a stroke at the place where a mark belongs, and a disc for its letter at the place where there is room for it
abbrev pub stroke : Layout → (at room : ℕ) → List ℕ
stroke Roomy at room =
    codes "<path d='M" ++ decimal at ++ codes " 31V17L" ++ decimal room ++ codes " 14'/><circle cx='" ++ decimal room ++ codes "' cy='7' r='7'/><text x='"
    ++ decimal room ++ codes "' y='11'>"
stroke Close at room = close_stroke at room ++ close_disc room ++ close_letter room

-- the beginning of a mark: its colour and its title
unfoldable pub badge_head : Weight → (title : Word) → List ℕ
badge_head weight title = codes "<g class='" ++ colour weight ++ codes "'><title>" ++ escaped title ++ codes "</title>"

-- a mark: its colour, its title, and its letter where there is room for it
unfoldable pub badge : Layout → (at room : ℕ) → MarkView → List ℕ
badge layout at room mark = badge_head mark.weight mark.title ++ stroke layout at room ++ escaped mark.letter ++ codes "</text></g>\n"

-- the last place of the page where a mark has room
abbrev pub last_room : ℕ
last_room = 1070

-- a mark at the last place
abbrev pub last_badge : Layout → (columns : ℕ) → MarkView → List ℕ
last_badge layout columns mark = badge layout (across columns mark.column) last_room mark

-- the marks that share the last place, of which one is held and the others come: the heaviest of them is drawn last, so that it lies on top
abbrev pub last_badges : Layout → (columns : ℕ) → (held : MarkView) → List MarkView → List ℕ
last_badges layout columns held [] = last_badge layout columns held
last_badges layout columns held (mark ∷ marks) = last_badge layout columns (lighter held mark) ++ last_badges layout columns (heavier held mark) marks

-- where there is room for a mark: at its own place, or right of the mark before it
abbrev pub room_at : (free at : ℕ) → ℕ
room_at free at = max free at

-- the marks of a lane, where there is room from this place on; those that would leave the page share its last place
abbrev pub badges : Layout → (columns free : ℕ) → List MarkView → List ℕ
badges layout columns free [] = []
badges layout columns free (mark ∷ marks) =
    let at = across columns mark.column in
    let room = room_at free at in
    if nat_lt room last_room then badge layout at room mark ++ badges layout columns (room + mark_room layout) marks else last_badges layout columns mark marks

-- ---- lanes

-- where the name of a lane stands
abbrev pub name_place : Layout → Word
name_place Roomy = codes "<text class='name' x='-10' y='27'>"
name_place Close = codes "<text class='name close' x='-10' y='8'>"

-- where a lane stands, by its place among the lanes
unfoldable pub lane_place : Layout → ℕ → List ℕ
lane_place layout place = group_at 72 (64 + place * lane_pitch layout) ++ name_place layout

-- a lane, by its place among the lanes
unfoldable pub lane_drawn : Layout → (columns place : ℕ) → LaneView → List ℕ
lane_drawn layout columns place lane =
    lane_place layout place ++ escaped lane.name ++ codes "</text>\n" ++ flat_map (bar layout columns) (runs lane.cells) ++ badges layout columns 0 lane.marks ++ codes "</g>\n"

-- a stroke through all lanes
unfoldable pub grid_drawn : (at bottom : ℕ) → List ℕ
grid_drawn at bottom = codes "<path class='grid' d='M" ++ (decimal at ++ (codes " 62V" ++ (decimal bottom ++ codes "'/>")))

-- a number of the scale
unfoldable pub number_drawn : (at number : ℕ) → List ℕ
number_drawn at number = codes "<text class='tick' x='" ++ (decimal at ++ (codes "' y='54'>" ++ (decimal number ++ codes "</text>\n")))

-- a place of the scale: a stroke through all lanes, and its number
unfoldable pub tick_drawn : (columns bottom : ℕ) → Tick → List ℕ
tick_drawn columns bottom tick = grid_drawn (72 + across columns tick.column) bottom ++ number_drawn (72 + across columns tick.column) tick.number

-- ---- the number that rises

-- one step: up to the number at a column's end, and across that column
abbrev pub step_drawn : (columns all column number : ℕ) → List ℕ
step_drawn columns all column number = codes "V" ++ decimal (60 - scaled 60 all number) ++ codes "H" ++ decimal (across columns (column + 1))

-- what the steps come to
unfoldable pub steps_end : (all : ℕ) → List ℕ
steps_end all = codes "'/><text class='word' x='966' y='12'>" ++ decimal all ++ codes "</text>\n"

-- what the steps count
unfoldable pub steps_name : (counted : Word) → List ℕ
steps_name counted = codes "<text class='name' x='-10' y='60'>" ++ escaped counted ++ codes "</text><path class='step' d='M0 60"

-- the line of all steps
unfoldable pub steps_drawn : (counted : Word) → List ℕ → List ℕ
steps_drawn counted steps = steps_name counted ++ placed (step_drawn (length steps) (last_of steps)) 0 steps ++ steps_end (last_of steps)

-- ---- the key

-- where an entry of the key stands: eight in a row
unfoldable pub key_place : ℕ → List ℕ
key_place place = group_at ((place % 8) * 124) ((place / 8) * 23)

-- the words of an entry of the key, and its end
unfoldable pub key_words : Word → List ℕ
key_words name = escaped name ++ codes "</text></g>\n"

-- the sample of a kind of cell
unfoldable pub cell_sample : Cell → List ℕ
cell_sample kind = codes "<rect " ++ shape Roomy kind ++ codes " x='0' width='24'/><text class='word' x='30' y='27'>"

-- what a kind of cell means, by its place in the key
unfoldable pub cell_drawn : ℕ → CellKeyView → List ℕ
cell_drawn place key = key_place place ++ cell_sample key.cell ++ key_words key.name

-- the sample of a letter
unfoldable pub letter_sample : Weight → Word → List ℕ
letter_sample weight letter =
    codes "<g class='" ++ colour weight ++ codes "'><circle cx='12' cy='46' r='7'/><text x='12' y='50'>" ++ escaped letter
    ++ codes "</text></g><text class='word' x='30' y='50'>"

-- what a letter means, by its place in the key
unfoldable pub letter_drawn : ℕ → LetterKeyView → List ℕ
letter_drawn place key = key_place place ++ letter_sample key.weight key.letter ++ key_words key.name

-- ---- the page

-- how much room the lanes of a chart have
abbrev pub layout_in : ChartView → Layout
layout_in c = layout_of (length c.lanes)

-- how far down the lanes of a chart go
abbrev pub lanes_end : ChartView → ℕ
lanes_end c = 64 + length c.lanes * lane_pitch (layout_in c)

-- colours that the colour-blind tell apart, in a light scheme and a dark one, by the reader's setting
unfoldable pub style : Word
style = codes "<style>text{font:12px system-ui,'Segoe UI',Helvetica,Arial,sans-serif;fill:#222}.title{font-size:15px;font-weight:600}.name{text-anchor:end}.tick{text-anchor:middle;fill:#666}.page{fill:#fff}.grid{stroke:#ddd}.strong{fill:#0072b2}.plain{fill:#56b4e9}.weak{fill:#e69f00}.absent{fill:#999}.active{fill:#009e73}.idle{fill:#bbb}.step{fill:none;stroke:#009e73;stroke-width:2}.alarm,.turn,.note{stroke-width:2}.alarm{fill:#c43e00;stroke:#c43e00}.turn{fill:#222;stroke:#222}.note{fill:#7d4a9a;stroke:#7d4a9a}g>path{fill:none}g>circle{stroke:none}.alarm text,.turn text,.note text{font-size:10px;font-weight:700;text-anchor:middle;fill:#fff;stroke:none}.name.close{font-size:9px}.alarm .close,.turn .close,.note .close{font-size:7px}@media(prefers-color-scheme:dark){text{fill:#ddd}.tick{fill:#999}.page{fill:#15181c}.grid{stroke:#333}.plain{fill:#7cc7f2}.strong{fill:#2f96d6}.absent{fill:#777}.idle{fill:#555}.active{fill:#1fbf94}.step{stroke:#1fbf94}.alarm{fill:#ff6a2b;stroke:#ff6a2b}.turn{fill:#eee;stroke:#eee}.note{fill:#c79be0;stroke:#c79be0}.alarm text,.turn text,.note text{fill:#111}}</style>\n"

-- how large the page is
unfoldable pub page_size : (height : ℕ) → List ℕ
page_size height = codes "<svg xmlns='http://www.w3.org/2000/svg' viewBox='0 0 1160 " ++ decimal height ++ codes "'>\n"

-- the sheet on which all else is drawn
unfoldable pub page_sheet : (height : ℕ) → List ℕ
page_sheet height = codes "<rect class='page' width='1160' height='" ++ decimal height ++ codes "'/>"

-- the title of the page
unfoldable pub page_title : Word → List ℕ
page_title title = codes "<text class='title' x='72' y='26'>" ++ escaped title ++ codes "</text>\n"

-- the head of the page: its size, its colours and its title
unfoldable pub page_head : (height : ℕ) → (title : Word) → List ℕ
page_head height title = page_size height ++ style ++ page_sheet height ++ page_title title

-- the number that rises, under lanes that end here
unfoldable pub page_steps : (end : ℕ) → (counted : Word) → List ℕ → List ℕ
page_steps end counted steps = group_at 72 (end + 14) ++ steps_drawn counted steps ++ codes "</g>\n"

-- the key, under lanes that end here, and the end of the page
unfoldable pub page_key : (end : ℕ) → List CellKeyView → List LetterKeyView → List ℕ
page_key end cells letters = group_at 72 (end + 84) ++ placed cell_drawn 0 cells ++ placed letter_drawn 0 letters ++ codes "</g>\n</svg>\n"

-- The SVG of a chart: its title, its scale, a bar for each lane with its marks, the number that rises as a line of steps, and the key.
unfoldable pub chart_svg : ChartView → List ℕ
chart_svg c =
    page_head (lanes_end c + 173) c.title ++ flat_map (tick_drawn (length c.steps) (lanes_end c + 80)) c.ticks
    ++ placed (lane_drawn (layout_in c) (length c.steps)) 0 c.lanes ++ page_steps (lanes_end c) c.counted c.steps ++ page_key (lanes_end c) c.cells c.letters
