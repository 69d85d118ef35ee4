-- What contracts see of buckets, and what they are after calls.
use Rattle.std.specs.Prelude.{ℕ, ◌≡◌, ◌<◌, ◌-◌, ◌^◌, ◌%◌, ◌==◌, Bool, true, false, List, [], ◌∷◌, ◌++◌, if◌then◌else◌, length, map, min, slice_index, slice_index_or, slice_set, sum}
use Rattle.std.specs.List.{All, filter, range_with_len}
use Rattle.tuple_edge.specs.declared.row.Row.{Row}
use Rattle.op_spec.specs.declared.spec.OpSpec.{OpSpec}
use Rattle.stream_ops.specs.Answers.{answers}
use Rattle.stream_ops.specs.Entries.{entries}
use Rattle.stream_ops.specs.Kept.{keys_after}
use Rattle.stream_ops.specs.State.{StateView, rebuilt, unseen}
use Rattle.plan_reader.specs.PlanView.{IsStage}
use Rattle.plan_reader.specs.declared.stage.Stage.{Stage}
use Rattle.bucket_move.specs.ByKey.{is_keyed}
use Rattle.bucket_move.specs.Limits.{buckets}
use Rattle.bucket_move.specs.Rows.{bucket_of, items_of, rows_in}

-- the buckets of a plan's one stage: where each stands, what is kept of it, and what came of the rows fed
pub record BucketsView : Type 0 where
  -- the one stage of the plan
  pub stage : Stage
  -- the partition of each bucket
  pub table : List ℕ
  -- what each partition keeps of each bucket
  pub kept : List (List StateView)
  -- the answers to the rows fed
  pub emitted : List Row
  -- how many rows were fed
  pub count : ℕ
  -- whether memory ran out in a feed
  pub failed : Bool

-- ---- calls

-- a call of `feed`, or of `move_bucket`
pub data Call : Type 0 where
  Feeds : (rows : List Row) → Call
  Moves : (bucket to : ℕ) → Call

-- the rows that calls feed, in order
abbrev pub fed : List Call → List Row
fed [] = []
fed (Feeds rows ∷ calls) = rows ++ fed calls
fed (Moves bucket to ∷ calls) = fed calls

-- the table at the opening: each bucket begins at its number modulo the number of partitions
abbrev pub opening_table : ℕ → List ℕ
opening_table parts = map (λ bucket. bucket % parts) (range_with_len 0 buckets)

-- a table after calls: a move puts a bucket elsewhere
unfoldable pub table_after : List ℕ → List Call → List ℕ
table_after table [] = table
table_after table (Feeds rows ∷ calls) = table_after table calls
table_after table (Moves bucket to ∷ calls) = table_after (slice_set table bucket to) calls

-- ---- what stands where

-- the partition of a bucket
abbrev pub part_of : List ℕ → ℕ → ℕ
part_of table bucket = slice_index table bucket

-- an operator that was given these rows
abbrev pub state_after : OpSpec → List Row → StateView
state_after spec rows = rebuilt spec (entries spec (items_of rows))

-- what is kept of a bucket, by what its partition keeps of each
abbrev pub state_in : OpSpec → List StateView → ℕ → StateView
state_in spec states bucket = slice_index_or states bucket (unseen spec)

-- what a partition keeps of a bucket
abbrev pub state_at : OpSpec → List (List StateView) → ℕ → ℕ → StateView
state_at spec kept part bucket = state_in spec (slice_index_or kept part []) bucket

-- of each bucket the partition where a table has it keeps what these rows of it make of an operator
abbrev pub AllKeep : OpSpec → List ℕ → List (List StateView) → (ℕ → List Row) → Type 0
AllKeep spec table kept rows = (bucket : ℕ) → bucket < buckets → state_at spec kept (part_of table bucket) bucket ≡ state_after spec (rows bucket)

-- of each bucket the partition where a table has it keeps what the bucket's rows make of an operator
abbrev pub AllStand : Stage → List ℕ → List (List StateView) → List Row → Type 0
AllStand stage table kept rows = AllKeep stage.op table kept (λ bucket. rows_in stage.by bucket rows)

-- What the buckets of a plan's stage are after calls, whatever was moved when: the rows were answered one after another as one operator answers them, each bucket
-- stands where the table has it, and its partition keeps what the rows of the bucket make of an operator.
pub record IsAfter (stage : Stage) (calls : List Call) (b : BucketsView) : Type 0 where
  pub of_plan : b.stage ≡ stage
  pub whole : b.failed ≡ false
  pub table : b.table ≡ table_after (opening_table b.stage.parts) calls
  pub emitted : b.emitted ≡ answers b.stage.op [] (items_of (fed calls))
  pub states : AllStand b.stage b.table b.kept (fed calls)
  pub count : b.count ≡ length (fed calls)

-- ---- keys

-- the rows whose bucket a table has at a partition
abbrev pub rows_at : Stage → List ℕ → ℕ → List Row → List Row
rows_at stage table part rows = filter (λ r. part_of table (bucket_of stage.by r) == part) rows

-- how many keys the rows of a partition's buckets have; a `keep` has none
abbrev pub keys_at : Stage → List ℕ → ℕ → List Row → ℕ
keys_at stage table part rows = length (keys_after stage.op (items_of (rows_at stage table part rows)))

-- how many keys these rows of a bucket have, where a table has the bucket at a partition
abbrev pub keys_there : OpSpec → List ℕ → ℕ → (ℕ → List Row) → ℕ → ℕ
keys_there spec table part rows bucket = if part_of table bucket == part then length (keys_after spec (items_of (rows bucket))) else 0

-- how many keys the first buckets have at a partition
abbrev pub keys_of_first : OpSpec → List ℕ → ℕ → (ℕ → List Row) → ℕ → ℕ
keys_of_first spec table part rows count = sum (map (keys_there spec table part rows) (range_with_len 0 count))

-- how many keys all buckets have at a partition; the count stands still at the last value of its counter
abbrev pub keys_kept : OpSpec → List ℕ → ℕ → (ℕ → List Row) → ℕ
keys_kept spec table part rows = min (keys_of_first spec table part rows buckets) (2 ^ 64 - 1)

-- ---- what is always true

-- the stage answers by key; each bucket stands at one of its partitions, and each partition has a state for each bucket
pub record IsRight (b : BucketsView) : Type 0 where
  pub stage : IsStage b.stage
  pub keyed : is_keyed b.stage.by b.stage.op ≡ true
  pub table : length b.table ≡ buckets
  pub within : All (λ part. part < b.stage.parts) b.table
  pub parts : length b.kept ≡ b.stage.parts
  pub slots : All (λ states. length states ≡ buckets) b.kept
  pub count : b.count < 2 ^ 64
