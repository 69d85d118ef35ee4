-- The inputs of a dataflow: rows with the source of ingress from which each comes.
use Rattle.std.specs.Prelude.{List, map}
use Rattle.tuple_edge.specs.declared.input.Input.{Input as Declared}
use Rattle.tuple_edge.specs.declared.row.Row.{Row}

-- a row and its source, from 0: the type of the code
abbrev pub Input : Type 0
Input = Declared

-- rows that all come from the first source
abbrev pub from_first : List Row → List Input
from_first rows = map (λ row. record { source = 0; row = row }) rows

-- the rows of inputs, in order
abbrev pub rows_in : List Input → List Row
rows_in inputs = map (λ input. input.row) inputs
