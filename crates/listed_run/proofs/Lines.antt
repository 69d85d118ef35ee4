-- Events with their lines.
use Rattle.std.proofs.Common.{◌≡◌, ◌∙◌, ◌+◌, ◌<◌, ℕ, List, [], ◌∷◌, ◌++◌, get_or, length, refl, sym, ap, arith, take}
use Rattle.std.proofs.lemmas.List.{length-take-le, take_more}
use Rattle.tuple_edge.specs.declared.event.Event.{Event}
use Rattle.run_journal.specs.Text.{lined_from}
use Rattle.run_journal.specs.declared.lined.Lined.{Lined}
use Rattle.flux_core.specs.Follows.{events_of}

-- one more event has the next line
pub lined_more : (line : ℕ) (es : List Event) (e : Event) → lined_from line (es ++ e ∷ []) ≡ lined_from line es ++ record { line = line + length es; event = e } ∷ []
lined_more line [] e = ap (λ n. record { line = n; event = e } ∷ []) {x = line} {y = line + 0} (omega arith)
lined_more line (x ∷ es) e =
    let next : line + 1 + length es ≡ line + length (x ∷ es) = omega arith in
    ap (λ ls. record { line = line; event = x } ∷ ls) (lined_more (line + 1) es e ∙ ap (λ n. lined_from (line + 1) es ++ record { line = n; event = e } ∷ []) next)

-- so it is of the next event of a list
pub lined_next : (all : List Event) (i : ℕ) (d : Event) (first line : ℕ) (old new : List Lined) → i < length all → line ≡ first + i → old ≡ lined_from first (take i all)
    → new ≡ old ++ record { line = line; event = get_or all i d } ∷ [] → new ≡ lined_from first (take (i + 1) all)
lined_next all i d first line old new within at before is =
    let count : first + length (take i all) ≡ line = (let n : length (take i all) ≡ i = length-take-le i all (omega arith) in omega (arith, n, at)) in
    is
    ∙ ap (λ ls. ls ++ record { line = line; event = get_or all i d } ∷ []) before
    ∙ ap (λ n. lined_from first (take i all) ++ record { line = n; event = get_or all i d } ∷ []) (sym count)
    ∙ sym (lined_more first (take i all) (get_or all i d))
    ∙ ap (lined_from first) (sym (take_more all i d within))

-- and their lines change nothing of them
pub events_lined : (line : ℕ) (es : List Event) → events_of (lined_from line es) ≡ es
events_lined line [] = refl
events_lined line (e ∷ es) = ap (λ l. e ∷ l) (events_lined (line + 1) es)
