-- How what was given on of a node's rows fits what it emitted, and what of that it handed on.
use Rattle.std.specs.Prelude.{◌≡◌, Bool, true, false, List, []}
use mathlib.Core.List.{IsPrefix}
use Rattle.tuple_edge.specs.declared.row.Row.{Row}

-- the first of the rows were given on; where the node lets go, these are what it handed on, and else it handed on none
abbrev pub IsDrawn : Bool → List Row → List Row → List Row → Type 0
IsDrawn true given rows gone = (given ≡ gone) × IsPrefix gone rows
IsDrawn false given rows gone = (gone ≡ []) × IsPrefix given rows
