-- The marks of a lane: of each happening in it one, in its column.
use Rattle.std.specs.Prelude.{ℕ, zero, ◌+◌, List, [], ◌∷◌, if◌then◌else◌, nat_lt}
use Rattle.std.specs.List.{flat_map}
use Rattle.tuple_edge.specs.declared.node.NodeId.{NodeId}
use Rattle.lane_chart.specs.ChartView.{MarkView}
use Rattle.run_timeline.specs.Said.{title_of}
use Rattle.run_timeline.specs.Signs.{letter_of, rank_of, stands_in, weight_of}
use Rattle.run_watch.specs.FrameView.{FrameView}
use Rattle.run_watch.specs.declared.happening.Told.{Told}

-- the column of a place of the list: how many columns end before it
abbrev pub column_of : List FrameView → (place : ℕ) → ℕ
column_of [] place = zero
column_of (frame ∷ frames) place = if nat_lt frame.place place then column_of frames place + 1 else zero

-- the mark of a happening, in the lane of a node
unfoldable pub mark_of : List FrameView → NodeId → Told → MarkView
mark_of frames n t = record {
  column = column_of frames t.place;
  weight = weight_of t.happening;
  rank = rank_of t.happening;
  letter = letter_of t.happening;
  title = title_of n t;
}

-- the mark of a happening, where it stands in the lane of this node
abbrev pub mark_in : List FrameView → NodeId → Told → List MarkView
mark_in frames n t = if stands_in n t.happening then mark_of frames n t ∷ [] else []

-- the marks of the lane of a node, in the order of the list
abbrev pub marks_of : List FrameView → List Told → NodeId → List MarkView
marks_of frames told n = flat_map (mark_in frames n) told
