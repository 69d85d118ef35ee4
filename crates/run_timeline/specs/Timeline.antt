-- The chart of a run: a lane for ingress, for each replica in node order, and for egress.
use Rattle.std.specs.Prelude.{ℕ, ◌-◌, Bool, true, List, [], ◌∷◌, ◌++◌, codes, get_or, if◌then◌else◌, length}
use Rattle.std.specs.Fmt.{decimal}
use Rattle.std.specs.List.{list_any}
use Rattle.tuple_edge.specs.declared.node.NodeId.{NodeId}
use Rattle.plan_reader.specs.PlanView.{PlanView}
use Rattle.run_journal.specs.Text.{node_name}
use Rattle.lane_chart.specs.ChartView.{ChartView, LaneView, Word}
use Rattle.lane_chart.specs.Places.{placed}
use Rattle.run_timeline.specs.Cells.{makes_of, replica_cells, rising_cells, rows_of}
use Rattle.run_timeline.specs.Keys.{cell_keys, letter_keys}
use Rattle.run_timeline.specs.Marks.{marks_of}
use Rattle.run_timeline.specs.Nodes.{replicas_of}
use Rattle.run_timeline.specs.Signs.{stands_in}
use Rattle.run_timeline.specs.Ticks.{ticks_of}
use Rattle.run_end.specs.Words.{end_words}
use Rattle.run_end.specs.declared.ends.RunEnd.{RunEnd}
use Rattle.run_watch.specs.FrameView.{FrameView}
use Rattle.run_watch.specs.declared.happening.Told.{Told}

-- the lane of ingress or egress, by what it had counted at each column's end
unfoldable pub end_lane : Word → List ℕ → LaneView
end_lane name counts = record { name = name; cells = rising_cells 0 counts; marks = [] }

-- the lane of a replica, by its place in node order
unfoldable pub replica_lane : List FrameView → List Told → (place : ℕ) → NodeId → LaneView
replica_lane frames told place n = record { name = node_name n; cells = replica_cells frames place; marks = marks_of frames told n }

-- whether something that is told stands in the lane of a node
abbrev pub has_told : List Told → NodeId → Bool
has_told told n = list_any (λ (t : Told). stands_in n t.happening) told

-- whether the lane of a replica is drawn: each one is, or those alone in which something happened
abbrev pub is_drawn : (only : Bool) → List Told → NodeId → Bool
is_drawn only told n = if only then has_told told n else true

-- the lane of a replica, where it is drawn
abbrev pub one_lane : (only : Bool) → List FrameView → List Told → (place : ℕ) → NodeId → List LaneView
one_lane only frames told place n = if is_drawn only told n then replica_lane frames told place n ∷ [] else []

-- the lanes of replicas in node order
abbrev pub replica_lanes : (only : Bool) → List FrameView → List Told → List NodeId → List LaneView
replica_lanes only frames told nodes = placed (one_lane only frames told) 0 nodes

-- all lanes, from ingress to egress
abbrev pub lanes_of : (only : Bool) → PlanView → List FrameView → List Told → List LaneView
lanes_of only plan frames told =
    end_lane (codes "in") (makes_of frames) ∷ (replica_lanes only frames told (replicas_of plan) ++ end_lane (codes "out") (rows_of frames) ∷ [])

-- a title: how many events there are, how far they lead, and how the run stands then, of which the plan gives so many rows in all
abbrev pub title_at : (place made emitted : ℕ) → RunEnd → (all : ℕ) → List ℕ
title_at place made emitted end all =
    decimal place ++ codes " events, " ++ decimal made ++ codes " makes, " ++ decimal emitted ++ codes " rows, " ++ end_words end emitted all

-- a run before its first event
abbrev pub at_first : FrameView
at_first = record { place = 0; modes = []; made = 0; emitted = 0 }

-- the last frame, and where there is none the run before its first event
abbrev pub last_frame : List FrameView → FrameView
last_frame frames = get_or frames (length frames - 1) at_first

-- the title of frames: that of the last one
abbrev pub title_of : List FrameView → RunEnd → (all : ℕ) → List ℕ
title_of frames end all = let f = last_frame frames in title_at f.place f.made f.emitted end all

-- The chart of what happened in a run of a plan, of its frames, and of how it stands at its end, where the plan gives so many rows in all.
unfoldable pub timeline : (only : Bool) → PlanView → List FrameView → List Told → RunEnd → (all : ℕ) → ChartView
timeline only plan frames told end all = record {
  title = title_of frames end all;
  ticks = ticks_of frames;
  lanes = lanes_of only plan frames told;
  counted = codes "rows";
  steps = rows_of frames;
  cells = cell_keys;
  letters = letter_keys;
}
