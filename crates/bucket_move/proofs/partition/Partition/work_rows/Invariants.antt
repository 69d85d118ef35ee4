use Rattle.std.proofs.Common.{ℕ, ◌≡◌, ◌++◌, List, length, take, true}
use Rattle.tuple_edge.specs.declared.row.Row.{Row}
use Rattle.plan_reader.specs.declared.stage.Stage.{Stage}
use Rattle.bucket_move.specs.ByKey.{is_keyed}
use Rattle.bucket_move.specs.Limits.{buckets}
use Rattle.bucket_move.specs.Working.{Holds, first_answers, picked, places_of}
use Rattle.bucket_move.proofs.partition.Partition.work_rows.Given as goal

abbrev pub invariant-loop-i : goal.invariant-loop-i
invariant-loop-i l = record {
  size : length l.self.states.items ≡ buckets;
  works : (stage : Stage) (table : List ℕ) (before : List Row) → is_keyed stage.by stage.op ≡ true
      → l.places ≡ places_of stage.by table l.rows → Holds stage table l.part before l.fn.self.states.items
      → Holds stage table l.part (before ++ take l.i l.rows) l.self.states.items
      × (l.self.answers.items ≡ picked l.part (take l.i l.places) (first_answers stage.op before (take l.i l.rows)));
}
