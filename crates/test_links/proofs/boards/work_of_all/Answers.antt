use Rattle.std.proofs.Common.{◌≡◌, ℕ, zero, suc, List, [], ◌∷◌, ◌++◌, length, take, drop, refl, sym, ap, subst, arith}
use Rattle.claim_board.specs.Board.{AllHoldNone, AreAll}
use Rattle.claim_board.proofs.Turns.{back_by_index, all_back, none_back}
use Rattle.test_links.proofs.boards.work_of_all.Goals as goal

pub work_of_each-requires-clause-seats : goal.work_of_each-requires-clause-seats
work_of_each-requires-clause-seats g c κs within = subst (λ l. AreAll c.args.board.now l × AllHoldNone l) (sym c.as_mut_slice.ensures.value) c.requires.seats

take_front : {A : Type 0} (xs ys : List A) (n : ℕ) → n ≡ length xs → take n (xs ++ ys) ≡ xs
take_front [] ys zero e = refl
take_front [] ys (suc n) e = absurd (omega arith)
take_front (x ∷ xs) ys zero e = absurd (omega arith)
take_front (x ∷ xs) ys (suc n) e = ap (λ l. x ∷ l) (take_front xs ys n (omega arith))

pub returns : goal.returns
returns g c =
    let board = c.args.board.now in
    let old = c.as_mut_slice.result.now in
    let new = c.work_of_each.new.seats in
    let all = subst (AreAll board) (sym c.as_mut_slice.ensures.value) c.requires.seats.0 in
    let none = subst AllHoldNone (sym c.as_mut_slice.ensures.value) c.requires.seats.1 in
    let same : length old ≡ length new = sym c.work_of_each.auto.seats in
    let back = back_by_index board old new same c.work_of_each.ensures in
    let long : c.args.seats.now.len ≡ length new = omega (arith, same, c.as_mut_slice.ensures.len) in
    subst (λ l. AreAll board l × AllHoldNone l) (sym (take_front new (drop (length new) c.args.seats.now.items) c.args.seats.now.len long)) (all_back board old new same back all, none_back board old new back none)
