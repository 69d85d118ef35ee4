-- Cells that are alike beside one another.
use Rattle.std.specs.Prelude.{ℕ, ◌+◌, ◌==◌, List, [], ◌∷◌, if◌then◌else◌}
use Rattle.lane_chart.specs.declared.chart.Cell.{Cell}
use Rattle.lane_chart.specs.declared.chart.Cell.TheVariants as cell
use Rattle.lane_chart.specs.declared.runs.Run.{Run}

-- which kind of cell it is, by its place in the list of kinds
abbrev pub rank : Cell → ℕ
rank cell.Strong = 0
rank cell.Plain = 1
rank cell.Weak = 2
rank cell.Absent = 3
rank cell.Active = 4
rank cell.Idle = 5

-- the runs from the one that has been seen between these two places
abbrev pub runs_after : Cell → (start end : ℕ) → List Cell → List Run
runs_after kind start end [] = record { cell = kind; start = start; end = end } ∷ []
runs_after kind start end (next ∷ cells) =
    if rank next == rank kind then runs_after kind start (end + 1) cells else record { cell = kind; start = start; end = end } ∷ runs_after next end (end + 1) cells

-- the runs of cells, each with the places at which it begins and ends
abbrev pub runs : List Cell → List Run
runs [] = []
runs (first ∷ cells) = runs_after first 0 1 cells
