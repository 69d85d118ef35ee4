-- The inputs of a run are within the limits of their times.
use Rattle.std.specs.Prelude.{List}
use Rattle.std.specs.List.{All}
use Rattle.tuple_edge.specs.Input.{Input}
use Rattle.stream_ops.specs.Times.{IsTime}

-- the times of the inputs are within their limits
abbrev pub AreTimely : List Input → Type 0
AreTimely rows = All (λ (input : Input). IsTime input.row.time) rows
