-- What producing rows needs, and what it leaves.
use Rattle.std.specs.Prelude.{◌≡◌, ◌<◌, ◌≤◌, ◌+◌, ℕ, Option, None, Some, length}
use Rattle.tuple_edge.specs.declared.row.Row.{Row}
use Rattle.tuple_edge.specs.Row.{route_of}
use Rattle.flux_producer.specs.ProducerView.{ProducerView, buffer_at}
use Rattle.plan_reader.specs.declared.stage.Stage.{Stage}

-- the next stage, if there is one, has a partition
abbrev pub HasParts : Option Stage → Type 0
HasParts None = Unit {0}
HasParts (Some next) = 1 ≤ next.parts

-- how many out-edges there are: one to each partition of the next stage, or to egress
abbrev pub targets_of : Option Stage → ℕ
targets_of None = 1
targets_of (Some next) = next.parts

-- the target of a row: the partition that routing names, or egress
abbrev pub target_at : Option Stage → Row → ℕ
target_at None row = 0
target_at (Some next) row = route_of row next.by next.parts

-- each edge has at most one item more, and room for at most one less
pub record TakesOne (old new : ProducerView) : Type 0 where
  pub targets : length new.edges ≡ length old.edges
  pub room : (t : ℕ) → t < length old.edges → (buffer_at old t).spare ≤ (buffer_at new t).spare + 1
  pub produced : (t : ℕ) → t < length old.edges → (buffer_at new t).produced ≤ (buffer_at old t).produced + 1
