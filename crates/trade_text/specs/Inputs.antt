-- The inputs of a dataflow over both files, in the order in which they come in.
use Rattle.std.specs.Prelude.{ℕ, Bool, ◌==◌, List, [], ◌∷◌, ◌++◌, map, if◌then◌else◌, IsPermutation, IsSortedBy}
use Rattle.std.specs.List.Sorted.{IsStableBy}
use Rattle.std.specs.Ordering.{int_cmp, is_lt}
use Rattle.tuple_edge.specs.Input.{Input, from_first}
use Rattle.tuple_edge.specs.declared.row.Row.{Row}

-- ---- order

-- an element among elements that are in order: behind those that are before it by the test, and before the others
abbrev pub put_by : {X : Type 0} → (X → X → Bool) → X → List X → List X
put_by is_before x [] = x ∷ []
put_by is_before x (y ∷ ys) = if is_before y x then y ∷ put_by is_before x ys else x ∷ y ∷ ys

-- elements in order; of those that tie, each stays behind those behind which it was
abbrev pub in_order_by : {X : Type 0} → (X → X → Bool) → List X → List X
in_order_by is_before [] = []
in_order_by is_before (x ∷ xs) = put_by is_before x (in_order_by is_before xs)

-- ---- inputs

-- rows that all come from this source
abbrev pub rows_from : ℕ → List Row → List Input
rows_from source rows = map (λ row. record { source = source; row = row }) rows

-- rows that all come from the second source
abbrev pub from_second : List Row → List Input
from_second rows = rows_from 1 rows

-- whether one input's row has an earlier time than the other's
abbrev pub is_earlier : Input → Input → Bool
is_earlier x y = is_lt (int_cmp x.row.time y.row.time)

-- The rows of both files in order of time. Of those of one time, trades come before movements, and those of a file in its order.
abbrev pub inputs_of_both : List Row → List Row → List Input
inputs_of_both trades movements = in_order_by is_earlier (from_first trades ++ from_second movements)

-- the inputs of a plan of this version: for the first the trades as they stand in their file, for the second the rows of both files
abbrev pub inputs_of : ℕ → List Row → List Row → List Input
inputs_of version trades movements = if version == 1 then from_first trades else inputs_of_both trades movements

-- the same in the words of sorting: the same inputs, none before an earlier one, and those of one time in the order that they had
pub record IsTimeOrder (given ordered : List Input) : Type 0 where
  pub same : IsPermutation given ordered
  pub rising : IsSortedBy is_earlier ordered
  pub stable : IsStableBy is_earlier given ordered
