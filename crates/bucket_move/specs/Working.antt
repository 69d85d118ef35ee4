-- How the answers of partitions are put in the order of the rows.
use Rattle.std.specs.Prelude.{ℕ, ◌≡◌, ◌<◌, ◌==◌, true, false, List, [], ◌∷◌, ◌++◌, Option, None, length, map, slice_get, slice_index_or, slice_set, if◌then◌else◌}
use Rattle.tuple_edge.specs.declared.row.Column.{Column}
use Rattle.tuple_edge.specs.declared.row.Row.{Row}
use Rattle.op_spec.specs.declared.spec.OpSpec.{OpSpec}
use Rattle.stream_ops.specs.Answers.{row_answer}
use Rattle.stream_ops.specs.State.{StateView}
use Rattle.plan_reader.specs.declared.stage.Stage.{Stage}
use Rattle.bucket_move.specs.BucketsView.{part_of, state_after, state_in}
use Rattle.bucket_move.specs.ByKey.{is_keyed}
use Rattle.bucket_move.specs.Limits.{buckets}
use Rattle.bucket_move.specs.Rows.{bucket_of, items_of, rows_in}
use Rattle.bucket_move.specs.declared.partition.Partition.{Partition}
use Rattle.bucket_move.specs.declared.partition.Place.{Place}

-- the bucket of a row, and its partition
abbrev pub place_of : Column → List ℕ → Row → Place
place_of by table r = record { part = part_of table (bucket_of by r); bucket = bucket_of by r }

-- the bucket of each row, and its partition
abbrev pub places_of : Column → List ℕ → List Row → List Place
places_of by table rows = map (place_of by table) rows

-- the answer to a row after others, if there is one: an operator that is by key has one at most
abbrev pub first_answer : OpSpec → List Row → Row → Option Row
first_answer spec before r = slice_get (row_answer spec (items_of before) r) 0

-- the same of rows one after another
unfoldable pub first_answers : OpSpec → List Row → List Row → List (Option Row)
first_answers spec before [] = []
first_answers spec before (r ∷ rows) = first_answer spec before r ∷ first_answers spec (before ++ r ∷ []) rows

-- those of them that are of a partition
unfoldable pub picked : {X : Type 0} → ℕ → List Place → List X → List X
picked part [] xs = []
picked part (place ∷ places) [] = []
picked part (place ∷ places) (x ∷ xs) = (if place.part == part then x ∷ [] else []) ++ picked part places xs

-- of each bucket that a table has at a partition, the partition keeps what the bucket's rows make of an operator
pub record Holds (stage : Stage) (table : List ℕ) (part : ℕ) (rows : List Row) (states : List StateView) : Type 0 where
  pub each : (bucket : ℕ) → bucket < buckets → part_of table bucket ≡ part → state_in stage.op states bucket ≡ state_after stage.op (rows_in stage.by bucket rows)

-- the first of answers, if it is a row
abbrev pub first_of : List (Option Row) → Option Row
first_of [] = None
first_of (answer ∷ answers) = answer

-- what partitions keep
abbrev pub kept_in : List Partition → List (List StateView)
kept_in parts = map (λ p. p.states.items) parts

-- the answers of partitions, each to its own rows
abbrev pub queues_in : List Partition → List (List (Option Row))
queues_in parts = map (λ p. p.answers.items) parts

-- each partition holds its buckets
abbrev pub AllHold : Stage → List ℕ → List Row → List (List StateView) → Type 0
AllHold stage table rows kept = (part : ℕ) → part < length kept → Holds stage table part rows (slice_index_or kept part [])

-- each partition has the answers to its own rows
abbrev pub AllAnswered : List Place → List (Option Row) → List (List (Option Row)) → Type 0
AllAnswered places answers queues = (part : ℕ) → part < length queues → slice_index_or queues part [] ≡ picked part places answers

-- what a partition's work makes of it: unless memory ran out, what it held before the rows it holds after them, and it has the answers to its own rows
pub record Works (part : ℕ) (rows : List Row) (places : List Place) (old new : Partition) : Type 0 where
  pub slots : length new.states.items ≡ buckets
  pub works : new.failed ≡ false → (stage : Stage) (table : List ℕ) (before : List Row) → is_keyed stage.by stage.op ≡ true → places ≡ places_of stage.by table rows
      → Holds stage table part before old.states.items
      → Holds stage table part (before ++ rows) new.states.items × (new.answers.items ≡ picked part places (first_answers stage.op before rows))

-- a partition keeps this of a bucket
abbrev pub with_state : List (List StateView) → ℕ → ℕ → StateView → List (List StateView)
with_state kept part bucket state = slice_set kept part (slice_set (slice_index_or kept part []) bucket state)

-- what a partition keeps of a bucket is another one's, and it keeps what was given nothing
abbrev pub handed_over : List (List StateView) → ℕ → ℕ → ℕ → StateView → List (List StateView)
handed_over kept bucket from to unseen = with_state (with_state kept from bucket unseen) to bucket (slice_index_or (slice_index_or kept from []) bucket unseen)
