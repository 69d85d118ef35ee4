-- The rows that are told of a stage: those on which rows rest that are asked about.
use Rattle.std.specs.Prelude.{ℕ, ◌+◌, ◌-◌, ◌==◌, ◌&&◌, not, Bool, false, List, [], ◌∷◌, Option, None, count_by, length, slice_get, slice_index_or, option_map, if◌then◌else◌}
use Rattle.tuple_edge.specs.declared.row.Row.{Row}
use Rattle.op_spec.specs.declared.spec.OpSpec.{OpSpec}
use Rattle.row_origin.specs.Marks.{Roles}
use Rattle.row_origin.specs.Origins.{StageOrigin}
use Rattle.origin_finder.specs.Counting.{speaker_counts}
use Rattle.origin_text.specs.declared.told.ToldRow.{ToldRow}

-- those among rows from this place on, by the marks of all
abbrev pub told_from : (place : ℕ) → List Row → Roles → List ToldRow
told_from place [] roles = []
told_from place (r ∷ rows) roles =
    if slice_index_or roles.rests place false then record { number = place + 1; row = r; counts = slice_index_or roles.counts place false } ∷ told_from (place + 1) rows roles
    else told_from (place + 1) rows roles

-- those of a stage
abbrev pub told_rows : StageOrigin → List ToldRow
told_rows o = told_from 0 o.rows o.roles

-- how many of them count
abbrev pub counting : List ToldRow → ℕ
counting told = count_by (λ (t : ToldRow). t.counts) told

-- the last one
abbrev pub last_told : List ToldRow → Option ToldRow
last_told told = slice_get told (length told - 1)

-- The number of the row by which the row of the output came, where it counts: at the last stage the last one that is told, but of a window's.
abbrev pub came_by : (is_last : Bool) → OpSpec → List ToldRow → Option ℕ
came_by is_last op told = if is_last && speaker_counts op then option_map (λ (t : ToldRow). t.number) (last_told told) else None

-- whether the row of the output came at the end: a window's, where no row only closed it
abbrev pub came_at_end : (is_last : Bool) → OpSpec → List ToldRow → Bool
came_at_end is_last op told = is_last && (not (speaker_counts op) && (counting told == length told))
