-- One more pair.
use Rattle.std.proofs.Common.{◌≡◌, true, List, [], ◌∷◌, ◌++◌, refl, sym, ap, ◌∙◌, append_assoc}
use Rattle.std.specs.Ordering.{int_eq}
use Rattle.keyed_store.specs.Join.{pair_of, pairs_with}
use Rattle.keyed_store.specs.declared.rows.Pair.{Pair}
use Rattle.keyed_store.specs.declared.rows.SideRow.{SideRow}

pub pairs_more : (r x : SideRow) (items rest : List SideRow) (out pushed all : List Pair) (p : Pair) → items ≡ x ∷ rest → int_eq x.window r.window ≡ true → p ≡ pair_of r x
    → pushed ≡ out ++ p ∷ [] → out ++ pairs_with r items ≡ all → pushed ++ pairs_with r rest ≡ all
pairs_more r x items rest out pushed all p shown hit pair push had =
    let more : pairs_with r items ≡ pair_of r x ∷ pairs_with r rest = ap (pairs_with r) shown ∙ rw hit refl in
    ap (λ es. es ++ pairs_with r rest) (push ∙ ap (λ q. out ++ q ∷ []) pair)
    ∙ append_assoc out (pair_of r x ∷ []) (pairs_with r rest)
    ∙ ap (λ es. out ++ es) (sym more) ∙ had
