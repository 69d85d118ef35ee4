-- A cause that was found.
use Rattle.std.specs.Prelude.{ℕ, ◌≡◌, List, Some, slice_get}
use Rattle.row_cause.specs.Causes.{Cause}
use Rattle.row_cause.specs.declared.placed.Placed.{Placed}

-- where there is an nth cause, these are its rows before
abbrev pub RestsOn : List Cause → ℕ → List Placed → Type 0
RestsOn causes n before = (c : Cause) → slice_get causes n ≡ Some c → before ≡ c.before
