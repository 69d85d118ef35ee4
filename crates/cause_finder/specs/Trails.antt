-- The trails of the rows that come to a stage: of each row the last one before it of its partition and key.
use Rattle.std.specs.Prelude.{ℕ, ℤ, pos, ◌≡◌, ◌≤◌, ◌<◌, ◌+◌, ◌-◌, Bool, List, [], ◌∷◌, ◌++◌, Option, None, Some, drop, if◌then◌else◌, length, slice_get, take}
use Rattle.std.specs.BTreeMap.{is_at}
use Rattle.std.specs.Map.{lookup}
use Rattle.std.specs.Ordering.{nat_cmp, ordering_then}
use Rattle.std.specs.declared.cmp.Ordering.{Ordering}
use Rattle.circular_buffer.specs.Buffer.{keep_last}
use Rattle.tuple_edge.specs.Row.{route_of}
use Rattle.tuple_edge.specs.declared.row.Key.{Key}
use Rattle.tuple_edge.specs.declared.row.Row.{Row}
use Rattle.op_spec.specs.Keys.{key_cmp, key_of}
use Rattle.op_spec.specs.declared.spec.By.{By}
use Rattle.op_spec.specs.declared.spec.By.TheVariants as kept
use Rattle.op_spec.specs.declared.spec.OpSpec.{OpSpec}
use Rattle.op_spec.specs.declared.spec.OpSpec.TheVariants as op
use Rattle.plan_reader.specs.declared.stage.Stage.{Stage}
use Rattle.stream_ops.specs.Windows.{level, window_of}
use Rattle.row_cause.specs.Causes.{of_key, open_rows, rows_in}
use Rattle.row_cause.specs.declared.placed.Placed.{Placed}
use Rattle.row_origin.specs.Stages.{placed_from, placed_to}
use Rattle.cause_finder.specs.declared.trails.Trail.{Trail}
use Rattle.cause_finder.specs.declared.trails.Spot.{Spot}

-- ---- what answers rest on

-- by what an operator keeps rows; one that keeps none takes any
abbrev pub keyed_by : OpSpec → By
keyed_by (op.Keep column compare limit) = kept.Account
keyed_by (op.Total by) = by
keyed_by (op.Last by n) = by
keyed_by (op.Window by width) = by
keyed_by (op.Crossing by limit) = by
keyed_by (op.Join by width n column compare limit) = by

-- of the rows of a key so far those on which the next answer rests that is none of a join: a pair rests on one of them
abbrev pub resting : OpSpec → List Placed → List Placed
resting (op.Keep column compare limit) own = []
resting (op.Total by) own = own
resting (op.Last by n) own = keep_last (n - 1) own
resting (op.Window by width) own = open_rows width own
resting (op.Crossing by limit) own = own
resting (op.Join by width n column compare limit) own = []

-- ---- rows of a partition and a key

-- those among the first n rows that come to a stage
abbrev pub own_among : Stage → List Row → ℕ → ℕ → Key → List Placed
own_among stage rows n q k = of_key (keyed_by stage.op) k (placed_to stage q (placed_from 0 (take n rows)))

-- those of the partition and the key of a row, if there is one
abbrev pub own_of : Stage → List Row → ℕ → Option Row → List Placed
own_of stage rows n None = []
own_of stage rows n (Some r) = own_among stage rows n (route_of r stage.by stage.parts) (key_of (keyed_by stage.op) r)

-- those before the row of a place
abbrev pub own_before : Stage → List Row → ℕ → List Placed
own_before stage rows place = own_of stage rows place (slice_get rows place)

-- those up to it
abbrev pub own_upto : Stage → List Row → ℕ → List Placed
own_upto stage rows place = own_of stage rows (place + 1) (slice_get rows place)

-- those up to a place, if there is one
abbrev pub chain : Stage → List Row → Option ℕ → List Placed
chain stage rows None = []
chain stage rows (Some place) = own_upto stage rows place

-- ---- trails

-- a place is one of the first n
abbrev pub IsBelow : ℕ → Option ℕ → Type 0
IsBelow n None = Unit {0}
IsBelow n (Some place) = place < n

-- the window of a row where an operator keeps one, and else 0
abbrev pub window_in : OpSpec → Row → ℤ
window_in (op.Keep column compare limit) r = pos 0
window_in (op.Total by) r = pos 0
window_in (op.Last by n) r = pos 0
window_in (op.Window by width) r = window_of width r
window_in (op.Crossing by limit) r = pos 0
window_in (op.Join by width n column compare limit) r = pos 0

-- the level of rows where an operator keeps a window, and else 0
abbrev pub level_in : OpSpec → List Row → ℤ
level_in (op.Keep column compare limit) rows = pos 0
level_in (op.Total by) rows = pos 0
level_in (op.Last by n) rows = pos 0
level_in (op.Window by width) rows = level width rows
level_in (op.Crossing by limit) rows = pos 0
level_in (op.Join by width n column compare limit) rows = pos 0

-- from which row of a key on the next answer rests on them, behind a row before which so many came: the answer to this one rested on them `from`
-- a number on, and it opens a window or doesn't
abbrev pub rested_from : OpSpec → ℕ → ℕ → Bool → ℕ
rested_from (op.Keep column compare limit) count from opens = count + 1
rested_from (op.Total by) count from opens = 0
rested_from (op.Last by n) count from opens = count + 1 - (n - 1)
rested_from (op.Window by width) count from opens = if opens then count else from
rested_from (op.Crossing by limit) count from opens = 0
rested_from (op.Join by width n column compare limit) count from opens = count + 1

-- what a trail says of a row behind those of its key
pub record Tells (spec : OpSpec) (own : List Placed) (x : Placed) (trail : Trail) : Type 0 where
  pub count : trail.count ≡ length own
  pub from : resting spec (own ++ x ∷ []) ≡ drop trail.from (own ++ x ∷ [])
  pub within : trail.from ≤ trail.count + 1
  pub level : trail.level ≡ level_in spec (rows_in (own ++ x ∷ []))

-- the trail of the row of a place
pub record IsTrail (stage : Stage) (rows : List Row) (place : ℕ) (r : Row) (trail : Trail) : Type 0 where
  pub below : IsBelow place trail.before
  pub own : own_before stage rows place ≡ chain stage rows trail.before
  pub few : trail.count ≤ place
  pub tells : Tells stage.op (own_before stage rows place) (record { place = place; row = r }) trail

-- ---- the trails of all rows

-- each trail goes back
abbrev pub GoBack : List Trail → Type 0
GoBack trails = (place : ℕ) (trail : Trail) → slice_get trails place ≡ Some trail → IsBelow place trail.before

-- partitions and keys in their order
abbrev pub spot_cmp : Spot → Spot → Ordering
spot_cmp a b = ordering_then (nat_cmp a.part b.part) (key_cmp a.key b.key)

-- the place that there is for a partition and a key
abbrev pub place_at : List (Spot × ℕ) → ℕ → Key → Option ℕ
place_at places q k = lookup (is_at (spot_cmp (record { part = q; key = k }))) places

-- trails of rows, and the place of the last row of each partition and key
pub record KeyTrails : Type 0 where
  pub trails : List Trail
  pub last : List (Spot × ℕ)

-- the trails of the rows that come to a stage
pub record AreTrails (stage : Stage) (rows : List Row) (known : KeyTrails) : Type 0 where
  pub whole : length known.trails ≡ length rows
  pub each : (place : ℕ) (r : Row) (trail : Trail) → slice_get rows place ≡ Some r → slice_get known.trails place ≡ Some trail → IsTrail stage rows place r trail
  pub below : (q : ℕ) (k : Key) → IsBelow (length rows) (place_at known.last q k)
  pub last : (q : ℕ) (k : Key) → own_among stage rows (length rows) q k ≡ chain stage rows (place_at known.last q k)
