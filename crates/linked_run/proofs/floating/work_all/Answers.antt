use Rattle.std.proofs.Common.{◌≡◌, ℕ, zero, suc, List, [], ◌∷◌, ◌++◌, length, take, drop, refl, sym, ap, subst, arith}
use Rattle.std.specs.Prelude.{All}
use Rattle.std.proofs.lemmas.List.Elements.{All-cons, All-nil}
use mathlib.Core.Option.{some}
use lib.ListN.{get_elem?}
use Rattle.claim_board.specs.Board.{AllHoldNone, AreAll, HoldsNone, IsSeatOf}
use Rattle.claim_board.proofs.Turns.{back_by_index, all_back, none_back}
use Rattle.linked_run.proofs.floating.work_all.Goals as goal

all_by_place : {X : Type 0} (P : X → Type 0) (xs : List X) → ((j : ℕ) (x : X) → get_elem? xs j ≡ some x → P x) → All P xs
all_by_place P [] h = All-nil P
all_by_place P (x ∷ xs) h = All-cons P x xs (h zero x refl) (all_by_place P xs (λ j y e. h (suc j) y e))

pub work_each-requires-clause-seats : goal.work_each-requires-clause-seats
work_each-requires-clause-seats g c κs within =
    let both = subst (λ l. AreAll c.args.board.now l × AllHoldNone l) (sym c.as_mut_slice.ensures.value) c.requires.seats in
    all_by_place (λ s. IsSeatOf c.args.board.now s × HoldsNone s) _ (λ j s e. (both.0.each j s e, both.1 j s e))

take_front : {A : Type 0} (xs ys : List A) (n : ℕ) → n ≡ length xs → take n (xs ++ ys) ≡ xs
take_front [] ys zero e = refl
take_front [] ys (suc n) e = absurd (omega arith)
take_front (x ∷ xs) ys zero e = absurd (omega arith)
take_front (x ∷ xs) ys (suc n) e = ap (λ l. x ∷ l) (take_front xs ys n (omega arith))

pub returns : goal.returns
returns g c =
    let board = c.args.board.now in
    let old = c.as_mut_slice.result.now in
    let new = c.work_each.new.seats in
    let all = subst (AreAll board) (sym c.as_mut_slice.ensures.value) c.requires.seats.0 in
    let none = subst AllHoldNone (sym c.as_mut_slice.ensures.value) c.requires.seats.1 in
    let same : length old ≡ length new = sym c.work_each.auto.seats in
    let back = back_by_index board old new same c.work_each.ensures in
    let long : c.args.seats.now.len ≡ length new = omega (arith, same, c.as_mut_slice.ensures.len) in
    subst (λ l. AreAll board l × AllHoldNone l) (sym (take_front new (drop (length new) c.args.seats.now.items) c.args.seats.now.len long)) (all_back board old new same back all, none_back board old new back none)
