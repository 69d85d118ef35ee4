-- The cells of a lane, each at its column's end.
use Rattle.std.specs.Prelude.{ℕ, List, [], ◌∷◌, ◌==◌, get_or, if◌then◌else◌, map}
use Rattle.lane_chart.specs.declared.chart.Cell.{Cell}
use Rattle.lane_chart.specs.declared.chart.Cell.TheVariants as cell
use Rattle.run_watch.specs.FrameView.{FrameView}
use Rattle.run_watch.specs.declared.mode.Mode.{Mode}
use Rattle.run_watch.specs.declared.mode.Mode.TheVariants as mode

-- how a replica is drawn that is in this mode
abbrev pub cell_of : Mode → Cell
cell_of mode.Leads = cell.Strong
cell_of mode.Runs = cell.Plain
cell_of mode.Gathers = cell.Weak
cell_of mode.Gone = cell.Absent

-- the cell of a replica at the end of a column, by its place in node order
abbrev pub cell_at : (place : ℕ) → FrameView → Cell
cell_at place frame = cell_of (get_or frame.modes place mode.Gone)

-- the cells of a replica
abbrev pub replica_cells : List FrameView → (place : ℕ) → List Cell
replica_cells frames place = map (cell_at place) frames

-- the cell of a column at whose beginning a count was this, and at whose end it is that
abbrev pub rising_cell : (before count : ℕ) → Cell
rising_cell before count = if count == before then cell.Idle else cell.Active

-- the cells of a count that rises from this number
abbrev pub rising_cells : (before : ℕ) → List ℕ → List Cell
rising_cells before [] = []
rising_cells before (count ∷ counts) = rising_cell before count ∷ rising_cells count counts

-- what ingress had made at each column's end
abbrev pub makes_of : List FrameView → List ℕ
makes_of frames = map (λ f. f.made) frames

-- what egress had emitted at each column's end
abbrev pub rows_of : List FrameView → List ℕ
rows_of frames = map (λ f. f.emitted) frames
