-- Windows of time, and the rows that count into them.
use Rattle.std.specs.Prelude.{ℤ, pos, List, [], ◌∷◌, ◌++◌, fold, if◌then◌else◌}
use Rattle.std.specs.Int.{int_max, int_div_euclid}
use Rattle.std.specs.Ordering.{int_eq}
use Rattle.tuple_edge.specs.declared.row.Row.{Row}

-- the window that a row's time lies in, as a number: time / width, rounded down
abbrev pub window_of : ℤ → Row → ℤ
window_of width r = int_div_euclid r.time width

-- the greatest window among rows and one given
abbrev pub level_from : ℤ → ℤ → List Row → ℤ
level_from width high rows = fold (λ high r. int_max high (window_of width r)) high rows

-- the window of the first row
abbrev pub first_window : ℤ → List Row → ℤ
first_window width [] = pos 0
first_window width (r ∷ rows) = window_of width r

-- the level of the last row: the greatest window among the rows up to it
abbrev pub level : ℤ → List Row → ℤ
level width rows = level_from width (first_window width rows) rows

-- the rows whose level is `at`, where `high` is the greatest window before them
abbrev pub rows_at_from : ℤ → ℤ → ℤ → List Row → List Row
rows_at_from width high at [] = []
rows_at_from width high at (r ∷ rows) =
    (if int_eq (int_max high (window_of width r)) at then r ∷ [] else []) ++ rows_at_from width (int_max high (window_of width r)) at rows

-- the rows whose level is `at`, in order
abbrev pub rows_at : ℤ → ℤ → List Row → List Row
rows_at width at rows = rows_at_from width (first_window width rows) at rows
