-- Marking the rows of a key from the last one back, and what is known to be marked.
use Rattle.std.specs.Prelude.{ℕ, ◌≡◌, Bool, false, List, [], ◌∷◌, ◌++◌, Option, None, Some, drop, length, nat_le, slice_get}
use Rattle.tuple_edge.specs.declared.row.Row.{Row}
use Rattle.plan_reader.specs.declared.stage.Stage.{Stage}
use Rattle.row_cause.specs.declared.placed.Placed.{Placed}
use Rattle.row_origin.specs.Marks.{Roles, marked}
use Rattle.cause_finder.specs.Trails.{IsTrail, KeyTrails, chain, own_before, own_upto}
use Rattle.cause_finder.specs.declared.trails.Trail.{Trail}

-- roles, with those of rows that count
abbrev pub counting : List Placed → Roles → Roles
counting placed roles = record { rests = marked placed roles.rests; counts = marked placed roles.counts }

-- of the rows of a key up to a place those from a number on
abbrev pub chain_from : Stage → List Row → ℕ → Option ℕ → List Placed
chain_from stage rows low start = drop low (chain stage rows start)

-- Of the rows of its key before each row those from this number on are marked: to mark them again changes nothing.
pub record AreReached (stage : Stage) (rows : List Row) (reached : List ℕ) (roles : Roles) : Type 0 where
  pub whole : length reached ≡ length rows
  pub each : (place low : ℕ) → slice_get reached place ≡ Some low → counting (drop low (own_before stage rows place)) roles ≡ roles

-- whether a number, if there is one, is at most this
abbrev pub is_within : ℕ → Option ℕ → Bool
is_within low None = false
is_within low (Some from) = nat_le from low

-- whether the rows of its key before the row of a place are known to be marked from `low` on
abbrev pub has_reached : List ℕ → ℕ → ℕ → Bool
has_reached reached place low = is_within low (slice_get reached place)

-- from which number on a trail says that the next answer rests on rows of its key
abbrev pub from_of : Option Trail → ℕ
from_of None = 0
from_of (Some trail) = trail.from

-- a row that comes to a stage, and its trail: the rows of its key up to it are those before it and itself
pub record HasTrail (stage : Stage) (rows : List Row) (known : KeyTrails) (place : ℕ) (trail : Trail) : Type 0 where
  pub row : Row
  pub at : slice_get rows place ≡ Some row
  pub is : IsTrail stage rows place row trail
  pub upto : own_upto stage rows place ≡ own_before stage rows place ++ record { place = place; row = row } ∷ []

-- a row of a key was marked: what is left to be marked, from a number on, is what is left behind the next place
pub record IsMarkedNext (stage : Stage) (rows : List Row) (low place : ℕ) (reached : List ℕ) (old new : Roles) (next : Option ℕ) : Type 0 where
  pub left : counting (chain_from stage rows low (Some place)) old ≡ counting (chain_from stage rows low next) new
  pub stays : AreReached stage rows reached new

-- these rows were marked
pub record IsMarkedBack (stage : Stage) (rows : List Row) (reached : List ℕ) (placed : List Placed) (old new : Roles) : Type 0 where
  pub whole : new ≡ counting placed old
  pub stays : AreReached stage rows reached new
