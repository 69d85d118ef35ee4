-- The text of the first rows begins the text of all.
use Rattle.std.proofs.Common.{ℕ, ◌≡◌, List, ◌++◌, length, take, drop, sym, ap, ◌∙◌, append_assoc}
use Rattle.std.proofs.lemmas.Grind.{flat_map-append}
use Rattle.std.specs.List.{flat_map}
use Rattle.std.proofs.lemmas.List.{take-append-drop}
use mathlib.Core.List.{IsPrefix}
use Rattle.tuple_edge.specs.declared.row.Row.{Row}
use Rattle.trade_text.specs.Text.{column_names, count_line, part_text, row_line, text}

-- the first rows, and those after them
parted : (rows all : List Row) → take (length rows) all ≡ rows → rows ++ drop (length rows) all ≡ all
parted rows all first = ap (λ front. front ++ drop (length rows) all) (sym first) ∙ take-append-drop (length rows) all

pub first_rows_begin : (symbols : List (List ℕ)) (rows all : List Row) → take (length rows) all ≡ rows → IsPrefix (part_text symbols rows) (text symbols all)
first_rows_begin symbols rows all first =
    let line = row_line symbols in
    let later = flat_map line (drop (length rows) all) in
    let ends = count_line (length all) in
    let lines : flat_map line rows ++ later ≡ flat_map line all = sym (flat_map-append line rows (drop (length rows) all)) ∙ ap (flat_map line) (parted rows all first) in
    let whole : part_text symbols rows ++ later ≡ part_text symbols all = append_assoc column_names (flat_map line rows) later ∙ ap (λ text. column_names ++ text) lines in
    (later ++ ends, sym (append_assoc (part_text symbols rows) later ends) ∙ ap (λ text. text ++ ends) whole)
