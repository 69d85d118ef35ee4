use Rattle.std.proofs.Common.{◌≡◌, List, [], ◌∷◌, ◌++◌, length, vec_len, sym, ap, ◌∙◌, subst, arith}
use store.Seg.{eqb→≡}
use Rattle.claim_board.specs.Board.{AllHoldNone, AreAll}
use Rattle.test_links.proofs.boards.pair.Goals as goal

both_popped : {A : Type 0} (all front rest : List A) (x y : A) → all ≡ front ++ y ∷ [] → front ≡ rest ++ x ∷ [] → length rest ≡ 0 → all ≡ x ∷ y ∷ []
both_popped all front [] x y e f none = e ∙ ap (λ l. l ++ y ∷ []) f
both_popped all front (z ∷ rest) x y e f none = absurd (omega (arith, none))

pub returns : goal.returns
returns c =
    let board = c.args._board.now in
    let none : vec_len c.pop-2.new.self ≡ 0 = eqb→≡ (vec_len c.pop-2.new.self) 0 (sym c.is_empty.ensures ∙ c.if-not-is_empty.false) in
    let left : length c.pop-2.new.self.items ≡ 0 = omega (arith, none) in
    let is = both_popped c.args.seats.items c.pop.new.self.items c.pop-2.new.self.items c.in_ok-first.first c.in_ok-second.second c.in_ok-second.ensures.items c.in_ok-first.ensures.items left in
    subst (λ l. AreAll board l × AllHoldNone l) is c.requires
