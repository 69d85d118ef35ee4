-- Parts of a timeline worked by hand: six events in two columns, in the second of which the leader fails.
use Rattle.std.specs.Prelude.{◌≡◌, ℕ, true, false, List, [], ◌∷◌, codes, map}
use Rattle.std.specs.List.{flat_map}
use Rattle.tuple_edge.specs.declared.node.NodeId.{NodeId}
use Rattle.tuple_edge.specs.declared.node.NodeId.TheVariants as node
use Rattle.tuple_edge.specs.declared.node.Which.TheVariants.{A, B}
use Rattle.lane_chart.specs.declared.chart.Cell.TheVariants as cell
use Rattle.lane_chart.specs.declared.chart.Weight.TheVariants as weight
use Rattle.lane_chart.specs.ChartView.{Word}
use Rattle.lane_chart.specs.Text.{letter_at}
use Rattle.run_timeline.specs.Cells.{makes_of, replica_cells, rising_cells, rows_of}
use Rattle.run_timeline.specs.Marks.{column_of, marks_of}
use Rattle.run_timeline.specs.Ticks.{ticks_of}
use Rattle.run_timeline.specs.Timeline.{is_drawn, title_of}
use Rattle.run_end.specs.declared.ends.RunEnd.TheVariants.{Done, Lost}
use Rattle.run_watch.specs.FrameView.{FrameView}
use Rattle.run_watch.specs.declared.happening.Fell.TheVariants as fell
use Rattle.run_watch.specs.declared.happening.Happening.{Happening}
use Rattle.run_watch.specs.declared.happening.Happening.TheVariants as happening
use Rattle.run_watch.specs.declared.happening.Told.{Told}
use Rattle.run_watch.specs.declared.mode.Mode.TheVariants as mode

-- a replica of the one pair
abbrev pub replica_a : NodeId
replica_a = node.Replica 1 0 A

-- its partner
abbrev pub replica_b : NodeId
replica_b = node.Replica 1 0 B

-- the frames: A leads in the first one, and B in the second
abbrev pub two_frames : List FrameView
two_frames =
    record { place = 3; modes = mode.Leads ∷ mode.Runs ∷ []; made = 2; emitted = 0 }
    ∷ record { place = 6; modes = mode.Gone ∷ mode.Leads ∷ []; made = 3; emitted = 1 } ∷ []

-- what is told: A fails at the fourth event, and B leads at the sixth
abbrev pub two_told : List Told
two_told =
    record { place = 4; line = 5; made = 2; emitted = 0; happening = happening.Failed replica_a 1 }
    ∷ record { place = 6; line = 7; made = 3; emitted = 1; happening = happening.Leads replica_b 2 } ∷ []

-- a replica of another pair
abbrev pub replica_c : NodeId
replica_c = node.Replica 1 1 A

-- a happening at the fifth event, in the second column
abbrev pub told_at_five : Happening → Told
told_at_five h = record { place = 5; line = 6; made = 3; emitted = 0; happening = h }

-- a happening of each kind at replica A or its pair, in the order of the key
abbrev pub each_kind : List Happening
each_kind =
    happening.Lost 1 0 ∷ happening.Failed replica_a 1 ∷ happening.Named replica_a 2 3 fell.Failed ∷ happening.Leads replica_a 2 ∷ happening.Regained 1 0
    ∷ happening.AskedStop replica_a 1 ∷ happening.Stopped replica_a 1 ∷ happening.AskedBack replica_a
    ∷ happening.Recalled replica_a 2 ∷ happening.Begun replica_a 2 ∷ happening.Moved replica_a 2 7 ∷ happening.CaughtUp replica_a 2 7 1 ∷ []

-- the letter of a column in which two things happen one after the other
abbrev pub letter_of_two : (first second : Happening) → Word
letter_of_two first second = letter_at (marks_of two_frames (told_at_five first ∷ told_at_five second ∷ []) replica_a) 1 cell.Absent

-- the letters of columns in which one thing happens, and then one of each kind
abbrev pub letters_after : Happening → List ℕ
letters_after first = flat_map (letter_of_two first) each_kind

-- what the parts of this timeline come to
pub record WorkedTimelines : Type 0 where
  -- a column has the event at its end, and the next one begins after it
  pub at_the_end : column_of two_frames 3 ≡ 0
  pub after_the_end : column_of two_frames 4 ≡ 1
  -- a cell is that of its column's end
  pub of_a : replica_cells two_frames 0 ≡ cell.Strong ∷ cell.Absent ∷ []
  pub of_b : replica_cells two_frames 1 ≡ cell.Plain ∷ cell.Strong ∷ []
  -- ingress makes in both columns, and egress emits in the second
  pub of_ingress : rising_cells 0 (makes_of two_frames) ≡ cell.Active ∷ cell.Active ∷ []
  pub of_egress : rising_cells 0 (rows_of two_frames) ≡ cell.Idle ∷ cell.Active ∷ []
  -- each happening stands in its node's lane alone
  pub marks_of_a : marks_of two_frames two_told replica_a
      ≡ record { column = 1; weight = weight.Alarm; rank = 1; letter = codes "X"; title = codes "1.0.a: failed at event 4 line 5 in 2 out 0" } ∷ []
  pub marks_of_b : marks_of two_frames two_told replica_b
      ≡ record { column = 1; weight = weight.Turn; rank = 3; letter = codes "L"; title = codes "1.0.b: takes the lead at event 6 line 7 in 3 out 1" } ∷ []
  -- a pair that is lost stands in the lanes of both its replicas, and of no others
  pub lost_at_a : marks_of two_frames (told_at_five (happening.Lost 1 0) ∷ []) replica_a
      ≡ record { column = 1; weight = weight.Alarm; rank = 0; letter = codes "!"; title = codes "1.0.a: pair lost at event 5 line 6 in 3 out 0" } ∷ []
  pub lost_at_b : marks_of two_frames (told_at_five (happening.Lost 1 0) ∷ []) replica_b
      ≡ record { column = 1; weight = weight.Alarm; rank = 0; letter = codes "!"; title = codes "1.0.b: pair lost at event 5 line 6 in 3 out 0" } ∷ []
  pub lost_at_no_other : marks_of two_frames (told_at_five (happening.Lost 1 0) ∷ []) replica_c ≡ []
  -- of two things in one column the heavier has its letter there, whichever came first: a line for each kind that comes first, and in it a
  -- letter for each that comes second
  pub each_two : map letters_after each_kind
      ≡ codes "!!!!!!!!!!!!"
      ∷ codes "!XXXXXXXXXXX"
      ∷ codes "!XNNNNNNNNNN"
      ∷ codes "!XNLLLLLLLLL"
      ∷ codes "!XNLOOOOOOOO"
      ∷ codes "!XNLOAAAAAAA"
      ∷ codes "!XNLOASSSSSS"
      ∷ codes "!XNLOASBBBBB"
      ∷ codes "!XNLOASBRRRR"
      ∷ codes "!XNLOASBRGGG"
      ∷ codes "!XNLOASBRGMM"
      ∷ codes "!XNLOASBRGMC"
      ∷ []
  -- where only lanes are drawn in which something happened, the other pair's aren't
  pub drawn : is_drawn true two_told replica_a ≡ true
  pub not_drawn : is_drawn true two_told replica_c ≡ false
  -- a run that has merged all is done, one with a lost pair says so, and what that costs
  pub title_done : title_of two_frames Done 1 ≡ codes "6 events, 3 makes, 1 rows, done"
  pub title_lost : title_of two_frames (Lost 1 0) 5 ≡ codes "6 events, 3 makes, 1 rows, pair 1.0 is lost: 1 rows, 5 with all"
  -- the scale has its beginning and its end
  pub scale : ticks_of two_frames ≡ record { column = 0; span = 2; number = 0 } ∷ record { column = 2; span = 0; number = 6 } ∷ []
