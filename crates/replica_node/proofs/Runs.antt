-- The machine's run of numbers is that of what is held.
use Rattle.std.proofs.Common.{◌≡◌, ℕ, zero, suc, ◌+◌, ◌<◌, ◌≤◌, Bool, true, false, nat_eq, nat_lt, if◌then◌else◌, List, [], ◌∷◌, length, map, refl, sym, ap, ◌∙◌, subst, Option, arith}
use Rattle.std.specs.Prelude.{◌==◌}
use Rattle.std.specs.Option.{IsSome}
use Rattle.std.proofs.lemmas.Bool.Decides.{nat_tests}
use Rattle.tuple_edge.specs.declared.item.Item.{Item}
use Rattle.pair_machine.specs.Replicas.{contains, run_up}
use Rattle.catch_up.specs.Fold.{AllAbove, IsRising, IsRunFrom}
use Rattle.catch_up.specs.NewcomerView.{held_at}
use Rattle.catch_up.proofs.Folds.{run_ends, run_next, run_past}
use Rattle.replica_node.specs.CaughtUp.{RunsAreFolded}

-- the numbers under which items are held
abbrev numbers_in : List (ℕ × Item) → List ℕ
numbers_in held = map (λ e. e.0) held

-- only the numbers above the mark matter
same_run : (n mark : ℕ) (xs ys : List ℕ) → ((k : ℕ) → mark < k → contains k xs ≡ contains k ys) → run_up n mark xs ≡ run_up n mark ys
same_run zero mark xs ys same = refl
same_run (suc n) mark xs ys same =
    ap (λ b. if b then run_up n (mark + 1) xs else mark) (same (mark + 1) (omega arith))
    ∙ ap (λ u. if contains (mark + 1) ys then u else mark) (same_run n (mark + 1) xs ys (λ k past. same k (omega (arith, past))))

-- a number is not the first of a list, nor among those above another
not_first : (k x : ℕ) (xs : List ℕ) → (nat_eq k x ≡ false) → contains k (x ∷ xs) ≡ contains k xs
not_first k x xs is =
    let other : (k == x) ≡ false = grind (arith, nat_tests, is) in
    rw other refl

none_above : (n k : ℕ) (es : List (ℕ × Item)) → AllAbove n es → k ≤ n → contains k (map (λ e. e.0) es) ≡ false
none_above n k [] above under = refl
none_above n k (e ∷ es) above under =
    let other : nat_eq k e.0 ≡ false = grind (arith, nat_tests, under, above.0) in
    not_first k e.0 (map (λ e. e.0) es) other ∙ none_above n k es above.1 under

no_run : (n mark : ℕ) → run_up n mark [] ≡ mark
no_run zero mark = refl
no_run (suc n) mark = refl

pub runs_up : (n mark : ℕ) (held : List (ℕ × Item)) → IsRising held → length held ≤ n → IsRunFrom held mark (run_up n mark (map (λ e. e.0) held))
runs_up n mark [] rising enough =
    subst (λ u. IsRunFrom [] mark u) (sym (no_run n mark)) (record { from = omega arith; held_to = λ k past within. absurd (omega (arith, past, within)); ends = refl })
runs_up zero mark (e ∷ es) rising enough = absurd (omega (arith, enough))
runs_up (suc n) mark (e ∷ es) rising enough =
    by_place (nat_lt mark e.0) refl (nat_eq e.0 (mark + 1)) refl (λ k low. runs_up k low es rising.1)
  where
    past_first : (low : ℕ) → e.0 ≤ low → (k : ℕ) → low < k → contains k (numbers_in (e ∷ es)) ≡ contains k (numbers_in es)
    past_first low under k past =
        let other : nat_eq k e.0 ≡ false = grind (arith, nat_tests, under, past) in
        not_first k e.0 (numbers_in es) other

    by_place : (past : Bool) → nat_lt mark e.0 ≡ past → (next : Bool) → nat_eq e.0 (mark + 1) ≡ next
        → ((k low : ℕ) → length es ≤ k → IsRunFrom es low (run_up k low (numbers_in es)))
        → IsRunFrom (e ∷ es) mark (run_up (suc n) mark (numbers_in (e ∷ es)))
    by_place past was true is later =
        let next : e.0 ≡ mark + 1 = grind (arith, nat_tests, is) in
        let same : (mark + 1 == e.0) ≡ true = grind (arith, nat_tests, is) in
        let there : contains (mark + 1) (numbers_in (e ∷ es)) ≡ true = rw same refl in
        subst (λ b. IsRunFrom (e ∷ es) mark (if b then run_up n (mark + 1) (numbers_in (e ∷ es)) else mark)) (sym there)
        (run_next e es mark (run_up n (mark + 1) (numbers_in (e ∷ es))) next
        (subst (λ u. IsRunFrom es (mark + 1) u) (sym (same_run n (mark + 1) (numbers_in (e ∷ es)) (numbers_in es) (past_first (mark + 1) (omega (arith, next))))) (later n (mark + 1) (omega (arith, enough)))))
    by_place false was false is later =
        let under : e.0 ≤ mark = grind (arith, nat_tests, was) in
        subst (λ u. IsRunFrom (e ∷ es) mark u) (sym (same_run (suc n) mark (numbers_in (e ∷ es)) (numbers_in es) (past_first mark under)))
        (run_past e es mark (run_up (suc n) mark (numbers_in es)) under (later (suc n) mark (omega (arith, enough))))
    by_place true was false is later =
        let gap : mark + 1 < e.0 = grind (arith, nat_tests, was, is) in
        let other : nat_eq (mark + 1) e.0 ≡ false = grind (arith, nat_tests, gap) in
        let none : contains (mark + 1) (numbers_in (e ∷ es)) ≡ false = not_first (mark + 1) e.0 (numbers_in es) other ∙ none_above e.0 (mark + 1) es rising.0 (omega (arith, gap)) in
        subst (λ b. IsRunFrom (e ∷ es) mark (if b then run_up n (mark + 1) (numbers_in (e ∷ es)) else mark)) (sym none) (run_ends e es mark gap rising.0)

pub runs_are_folded : RunsAreFolded
runs_are_folded held mark rising = runs_up (length held) mark held rising (omega arith)

-- a run ends at one place
pub one_end : (held : List (ℕ × Item)) (mark a b : ℕ) → IsRunFrom held mark a → IsRunFrom held mark b → a ≡ b
one_end held mark a b left right = by_order (nat_lt a b) refl (nat_lt b a) refl
  where
    no_more : (a b : ℕ) → IsRunFrom held mark a → IsRunFrom held mark b → a < b → ⊥
    no_more a b left right less =
        let from : mark ≤ a = left.from in
        let some : IsSome (held_at held (a + 1)) = right.held_to (a + 1) (omega (arith, from)) (omega (arith, less)) in
        let none : false ≡ true = subst (λ (o : Option Item). IsSome o) left.ends some in
        cc

    by_order : (less : Bool) → nat_lt a b ≡ less → (more : Bool) → nat_lt b a ≡ more → a ≡ b
    by_order true is more was = absurd (no_more a b left right (grind (arith, nat_tests, is)))
    by_order less is true was = absurd (no_more b a right left (grind (arith, nat_tests, was)))
    by_order false is false was = grind (arith, nat_tests, is, was)
