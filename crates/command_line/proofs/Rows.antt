-- What is kept, as the rows of `clap`.
use Rattle.std.proofs.Common.{◌≡◌, ◌∙◌, refl, ap, sym, ℕ, Bool, List, [], ◌∷◌, ◌++◌, map, Option, Some, None, true, false, ◌||◌}
use Rattle.std.specs.Str.{bytes_eq}
use Rattle.std.proofs.lemmas.List.{append-nil, map-append}
use Rattle.clap.specs.Walk.{Row, Text, at_row, first_of, has_row, more_values, used, without}
use Rattle.clap.specs.Values.{reading_of}
use Rattle.clap.specs.declared.builder.value_parser.Reading.{Reading}
use Rattle.clap.specs.declared.builder.value_parser.ValueParser.TheVariants as vp
use Rattle.clap.specs.declared.parser.matches.ValueSource.TheVariants.{CommandLine}
use Rattle.command_line.specs.Words.{Kept, holds, kept_as}
use Rattle.command_line.proofs.Built.{made}

abbrev pub how : Reading
how = reading_of vp.String

abbrev pub row : Text × Text → Row
row pair = record { id = pair.0; values = pair.1 ∷ []; count = None; source = Some CommandLine; reading = how }

abbrev pub rows : Kept → List Row
rows kept = map row kept

pub has_row_kept : (name : Text) (kept : Kept) → has_row name (rows kept) ≡ holds name kept
has_row_kept name [] = refl
has_row_kept name (pair ∷ kept) = ap (λ b. bytes_eq pair.0 name || b) (has_row_kept name kept)

pub at_row_lacking : (id : Text) (change : Row → List Row) (missing rs : List Row) → has_row id rs ≡ false → at_row id change missing rs ≡ rs ++ missing
at_row_lacking id change missing [] lacks = refl
at_row_lacking id change missing (r ∷ rs) lacks = go (bytes_eq r.id id) refl lacks (at_row_lacking id change missing rs)
  where
    go : (t : Bool) → bytes_eq r.id id ≡ t → (t || has_row id rs) ≡ false → (has_row id rs ≡ false → at_row id change missing rs ≡ rs ++ missing)
        → at_row id change missing (r ∷ rs) ≡ r ∷ (rs ++ missing)
    go true e l rest = cc
    go false e l rest = rw (e, rest l) refl

-- a use of an argument that has none yet
pub used_once : (id value : Text) (long : Option Text) (index : Option ℕ) (kept : Kept) → holds id kept ≡ false
    → used (made id long index) (value ∷ []) (rows kept) ≡ rows (kept ++ (id, value) ∷ [])
used_once id value long index kept lacks =
    let none : has_row id (rows kept) ≡ false = has_row_kept id kept ∙ lacks in
    let rest : without id (rows kept) ≡ rows kept = at_row_lacking id (λ _. []) [] (rows kept) none ∙ append-nil (rows kept) in
    rw rest (at_row_lacking id (more_values CommandLine (value ∷ [])) (row (id, value) ∷ []) (rows kept) none ∙ sym (map-append row kept ((id, value) ∷ [])))

pub first_kept : (name : Text) (kept : Kept) → first_of name (rows kept) ≡ kept_as name kept
first_kept name [] = refl
first_kept name (pair ∷ kept) = go (bytes_eq pair.0 name) refl (first_kept name kept)
  where
    go : (t : Bool) → bytes_eq pair.0 name ≡ t → first_of name (rows kept) ≡ kept_as name kept → first_of name (rows (pair ∷ kept)) ≡ kept_as name (pair ∷ kept)
    go true e rest = rw e refl
    go false e rest = rw e rest
