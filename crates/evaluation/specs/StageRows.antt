-- The rows that come to a stage, without stamps: early ones, of which no two have one stamp, and after them late ones, which all have the stamp of
-- the end. What answers an early row comes from one partition, in order, with that row's stamp: so the answers row by row are in the merged order, and
-- only late rows need one of their own. The early answers have stamps of their own again where no row has two, as is so before the last stage.
use Rattle.std.specs.Prelude.{◌≡◌, ◌==◌, ◌+◌, ℕ, zero, suc, List, [], ◌∷◌, ◌++◌, filter}
use Rattle.tuple_edge.specs.Row.{route_of}
use Rattle.tuple_edge.specs.declared.item.Item.{Item}
use Rattle.tuple_edge.specs.declared.item.Item.TheVariants as item
use Rattle.tuple_edge.specs.declared.row.Row.{Row}
use Rattle.op_spec.specs.Times.{IsTime}
use Rattle.op_spec.specs.declared.spec.OpSpec.{OpSpec}
use Rattle.stream_ops.specs.Answers.{answer, answers}
use Rattle.stream_ops.specs.State.{StandsFor, StateView}
use Rattle.plan_reader.specs.declared.stage.Stage.{Stage}
use Rattle.pair_machine.specs.Edges.{stamped}

-- a row has a time within the limits
abbrev pub HasTime : Row → Type 0
HasTime r = IsTime r.time

-- ---- the rows of a partition

-- the rows that go to partition q
abbrev pub rows_to : Stage → ℕ → List Row → List Row
rows_to stage q rows = filter (λ r. route_of r stage.by stage.parts == q) rows

-- rows as items of one stamp: answers don't depend on it
abbrev pub alike : List Row → List Item
alike rows = stamped 0 rows

-- an operator's state after rows
pub record HasTaken (op : OpSpec) (state : StateView) (rows : List Row) : Type 0 where
  pub spec : state.spec ≡ op
  pub stands : StandsFor state (alike rows)

-- each of the partitions of a stage, the first of these being partition q, has taken the rows that go to it
abbrev pub PartsTook : Stage → ℕ → List StateView → List Row → Type 0
PartsTook stage q [] rows = Unit {0}
PartsTook stage q (state ∷ states) rows = HasTaken stage.op state (rows_to stage q rows) × PartsTook stage (q + 1) states rows

-- ---- what a stage answers

-- to one row, after those before
abbrev pub row_replies : Stage → List Row → Row → List Row
row_replies stage before r = answer stage.op (alike (rows_to stage (route_of r stage.by stage.parts) before)) (item.Row 0 r)

-- to early rows, after those before, in their order
abbrev pub early_replies : Stage → List Row → List Row → List Row
early_replies stage before [] = []
early_replies stage before (r ∷ rows) = row_replies stage before r ++ early_replies stage (before ++ r ∷ []) rows

-- what partition q answers to late rows and the end, after the early ones
abbrev pub part_replies : Stage → List Row → List Row → ℕ → List Row
part_replies stage early late q = answers stage.op (alike (rows_to stage q early)) (alike (rows_to stage q late) ++ item.End 0 ∷ [])

-- the same of partitions from q on, n of them, one after the other
abbrev pub late_replies : Stage → List Row → List Row → ℕ → ℕ → List Row
late_replies stage early late q zero = []
late_replies stage early late q (suc n) = part_replies stage early late q ++ late_replies stage early late (q + 1) n
