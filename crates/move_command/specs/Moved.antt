-- Which moves are made over so many rows, and when.
use Rattle.std.specs.Prelude.{ℕ, ◌-◌, nat_le, List, [], ◌∷◌, drop, fold, slice_set, take}
use Rattle.std.specs.List.{filter}
use Rattle.tuple_edge.specs.declared.row.Row.{Row}
use Rattle.bucket_move.specs.BucketsView.{Call, Feeds, Moves}
use Rattle.bucket_move.specs.declared.moves.Shift.{Shift}

-- the moves that are made over so many rows: those at a stamp that there is
abbrev pub made : ℕ → List Shift → List Shift
made rows shifts = filter (λ s. nat_le s.at rows) shifts

-- a table after moves
abbrev pub moved : List ℕ → List Shift → List ℕ
moved table shifts = fold (λ t s. slice_set t s.bucket s.to) table shifts

-- Each move is made behind the row of its stamp, where the first of these rows has the stamp after the one that was passed: so it holds for the rows of
-- later stamps. At last come the rows behind all moves.
abbrev pub calls_of : ℕ → List Row → List Shift → List Call
calls_of passed rows [] = Feeds rows ∷ []
calls_of passed rows (s ∷ shifts) = Feeds (take (s.at - passed) rows) ∷ Moves s.bucket s.to ∷ calls_of s.at (drop (s.at - passed) rows) shifts
