-- Rows that are handed on one by one.
use Rattle.std.proofs.Common.{◌≡◌, ◌+◌, ◌≤◌, List, [], ◌∷◌, ◌++◌, Option, None, Some, length, ap, sym, ◌∙◌, subst, arith, append_assoc, append-nil, length-append}
use Rattle.std.specs.Prelude.{MatchOption}
use mathlib.Core.List.{IsPrefix}
use Rattle.tuple_edge.specs.declared.row.Row.{Row}

-- what is the first of the rows that are left: none where none is
abbrev pub IsNext : Option Row → List Row → List Row → Type 0
IsNext next gone rows = MatchOption next (gone ≡ rows) (λ row. IsPrefix (gone ++ row ∷ []) rows)

fewer : (gone rows : List Row) (row : Row) → IsPrefix (gone ++ row ∷ []) rows → length gone + 1 ≤ length rows
fewer gone rows row h =
    let all : length ((gone ++ row ∷ []) ++ h.0) ≡ length rows = ap length h.1 in
    let two : length ((gone ++ row ∷ []) ++ h.0) ≡ length (gone ++ row ∷ []) + length h.0 = length-append (gone ++ row ∷ []) h.0 in
    let one : length (gone ++ row ∷ []) ≡ length gone + 1 = length-append gone (row ∷ []) in
    omega (arith, all, two, one)

same_row : (gone rest more : List Row) (row other : Row) → (gone ++ row ∷ []) ++ rest ≡ (gone ++ other ∷ []) ++ more → row ≡ other
same_row [] rest more row other e = cc
same_row (g ∷ gone) rest more row other e = same_row gone rest more row other cc

-- the front of the rows that is gone is one, whether any is left or none
front_gone : (next : Option Row) (gone rows : List Row) → IsNext next gone rows → IsPrefix gone rows
front_gone None gone rows h = ([], append-nil gone ∙ h)
front_gone (Some row) gone rows h = (row ∷ h.0, sym (append_assoc gone (row ∷ []) h.0) ∙ h.1)

-- the row that was let go is the first that was left
pub let_go_is : (gone rows later rows_after : List Row) (row : Row) (went next : Option Row) → IsPrefix (gone ++ row ∷ []) rows →
    MatchOption went ((later ≡ gone) × (gone ≡ rows)) (λ other. later ≡ gone ++ other ∷ []) → rows_after ≡ rows → IsNext next later rows_after → later ≡ gone ++ row ∷ []
let_go_is gone rows later rows_after row None next first went same is =
    let few = fewer gone rows row first in
    let all : length gone ≡ length rows = ap length went.1 in
    absurd (omega (arith, few, all))
let_go_is gone rows later rows_after row (Some other) next first went same is =
    let front : IsPrefix (gone ++ other ∷ []) rows = subst (λ l. IsPrefix l rows) went (subst (IsPrefix later) same (front_gone next later rows_after is)) in
    let both : (gone ++ row ∷ []) ++ first.0 ≡ (gone ++ other ∷ []) ++ front.0 = first.1 ∙ sym front.1 in
    went ∙ ap (λ r. gone ++ r ∷ []) (sym (same_row gone first.0 front.0 row other both))
