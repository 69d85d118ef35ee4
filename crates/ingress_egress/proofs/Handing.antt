-- Rows that are handed on, where those that lie before the held ones are skipped.
use Rattle.std.proofs.Common.{◌≡◌, ◌∙◌, ◌+◌, ◌≤◌, ℕ, zero, suc, List, [], ◌∷◌, ◌++◌, Option, None, Some, add-one, append_assoc, append-nil, ap, drop, length, refl, sym, subst}
use mathlib.Core.List.{IsPrefix}
use Rattle.std.specs.Prelude.{MatchOption, slice_get}
use Rattle.std.proofs.lemmas.List.{drop-append-le}
use Rattle.pair_machine.specs.Numbers.{Node}
use Rattle.plan_reader.specs.PlanView.{PlanView}
use Rattle.tuple_edge.specs.Input.{Input}
use Rattle.tuple_edge.specs.declared.row.Row.{Row}
use Rattle.ingress_egress.specs.EgressStands.{StandsFor}
use Rattle.ingress_egress.specs.EgressView.{EgressView}

-- what comes behind those held comes behind all
pub append_held : {X : Type 0} (gone held more : List X) (n : ℕ) → n ≤ length held → gone ++ drop n (held ++ more) ≡ (gone ++ drop n held) ++ more
append_held gone held more n within = ap (λ xs. gone ++ xs) (drop-append-le n held more within) ∙ sym (append_assoc gone (drop n held) more)

-- the element at a place is the first of those from there on
pub from_place : {X : Type 0} (xs : List X) (n : ℕ) (x : X) → slice_get xs n ≡ Some x → drop n xs ≡ x ∷ drop (suc n) xs
from_place [] n x at = let z : ⊥ = cc at in absurd z
from_place (y ∷ xs) zero x at = let same : y ≡ x = cc at in ap (λ z. z ∷ xs) same
from_place (y ∷ xs) (suc n) x at = from_place xs n x at

-- where there is none at a place there is none from there on
pub none_from : {X : Type 0} (xs : List X) (n : ℕ) → slice_get xs n ≡ None → drop n xs ≡ []
none_from [] zero at = refl
none_from [] (suc n) at = refl
none_from (y ∷ xs) zero at = let z : ⊥ = cc at in absurd z
none_from (y ∷ xs) (suc n) at = none_from xs n at

-- what was found at a place of the same list stands there
pub found : {X : Type 0} (held same : List X) (n : ℕ) (result o : Option X) → same ≡ held → result ≡ slice_get same n → result ≡ o → slice_get held n ≡ o
found held same n result o is at given = ap (λ xs. slice_get xs n) (sym is) ∙ sym at ∙ given

-- the first of those held stands right behind those that are gone
pub first_held : {X : Type 0} (gone held : List X) (n : ℕ) (o : Option X) → slice_get held n ≡ o
    → MatchOption o (gone ≡ gone ++ drop n held) (λ x. IsPrefix (gone ++ x ∷ []) (gone ++ drop n held))
first_held gone held n None at = sym (append-nil gone) ∙ ap (λ xs. gone ++ xs) (sym (none_from held n at))
first_held gone held n (Some x) at = (drop (suc n) held, append_assoc gone (x ∷ []) (drop (suc n) held) ∙ ap (λ xs. gone ++ xs) (sym (from_place held n x at)))

-- where the first of those held goes, all are what they were
pub goes_on : {X : Type 0} (gone held : List X) (n : ℕ) (x : X) → slice_get held n ≡ Some x → (gone ++ x ∷ []) ++ drop (n + 1) held ≡ gone ++ drop n held
goes_on gone held n x at =
    ap (λ k. (gone ++ x ∷ []) ++ drop k held) (add-one n) ∙ append_assoc gone (x ∷ []) (drop (suc n) held) ∙ ap (λ xs. gone ++ xs) (sym (from_place held n x at))

-- egress stands for the same numbers, whichever of its rows were handed on
pub hand_stands : (plan : PlanView) (inputs : List Input) (old new : EgressView) (gone : List Row) (n : Node) → new ≡ record old { gone = gone } → StandsFor plan inputs old n → StandsFor plan inputs new n
hand_stands plan inputs old new gone n same s =
    subst (λ e. StandsFor plan inputs e n) (sym same) (record { stages = s.stages; consumer = s.consumer; emitted = s.emitted; done = s.done })
