-- The scale of a timeline: places of the list of events.
use Rattle.std.specs.Prelude.{ℕ, ◌+◌, ◌-◌, ◌*◌, ◌/◌, List, ◌∷◌, get_or, if◌then◌else◌, length, map, max, min, nat_lt}
use Rattle.std.specs.List.{range_with_len}
use Rattle.lane_chart.specs.declared.chart.Tick.{Tick}
use Rattle.run_watch.specs.FrameView.{FrameView}

-- the places of the list at which columns end
abbrev pub places_of : List FrameView → List ℕ
places_of frames = map (λ f. f.place) frames

-- how many events come before a column begins: those up to the end of the column before it
abbrev pub events_before : List FrameView → (column : ℕ) → ℕ
events_before frames column = get_or (0 ∷ places_of frames) column 0

-- into how many parts of at least five columns a scale is divided, five at most
abbrev pub parts : (columns : ℕ) → ℕ
parts columns = max 1 (min 5 (columns / 5))

-- the column at which a part of a scale begins; the last one ends with the columns
abbrev pub part_at : (columns part : ℕ) → ℕ
part_at columns part = if nat_lt part (parts columns) then part * (columns / parts columns) else columns

-- the place of a scale at which a part begins
unfoldable pub tick_at : List FrameView → (part : ℕ) → Tick
tick_at frames part = record {
  column = part_at (length frames) part;
  span = part_at (length frames) (part + 1) - part_at (length frames) part;
  number = events_before frames (part_at (length frames) part);
}

-- how many places a scale has: the beginnings of its parts, and the end where it isn't the beginning's neighbour
abbrev pub tick_count : (columns : ℕ) → ℕ
tick_count columns = if nat_lt columns 2 then 1 else parts columns + 1

-- the places of a scale
abbrev pub ticks_of : List FrameView → List Tick
ticks_of frames = map (tick_at frames) (range_with_len 0 (tick_count (length frames)))
