-- Distinct numbers below n are at most n.
use Rattle.std.proofs.Common.{◌≡◌, ℕ, zero, suc, ◌+◌, ◌<◌, ◌≤◌, ltb, Bool, true, false, not, ◌&&◌, if◌then◌else◌, eq-eqb, ne_eqb, List, [], ◌∷◌, length, refl, sym, ap, ◌∙◌, true≢false, arith}
use borrow.Author.Tests.{ltb-true}
use mathlib.Core.Logic.{dite}
use native.Mathlib.Decide.{ℕ_discrete}
use Rattle.claim_board.specs.Lists.{is_in, without, is_distinct, all_below}
use Rattle.claim_board.proofs.Lists.{in_head, in_other, in_without_other, in_without_same, not_so}

pub and_parts : (b c : Bool) → (b && c) ≡ true → (b ≡ true) × (c ≡ true)
and_parts true c h = (refl, h)
and_parts false c h = absurd (true≢false (sym h))

pub and_both : (b c : Bool) → b ≡ true → c ≡ true → (b && c) ≡ true
and_both b c p q = ap (λ x. x && c) p ∙ q

pub not_true : (b : Bool) → not b ≡ true → b ≡ false
not_true true h = absurd (true≢false (sym h))
not_true false h = refl

-- leaving out what is not there changes nothing
not_has : (k : ℕ) (xs : List ℕ) → is_in k xs ≡ false → without k xs ≡ xs
not_has k [] h = refl
not_has k (x ∷ xs) h = dite (ℕ_discrete k x)
    (λ e. absurd (true≢false (sym (ap (λ i. is_in i (x ∷ xs)) e ∙ in_head x xs) ∙ h)))
    (λ d. ap (λ b. if b then without k xs else x ∷ without k xs) (ne_eqb k x d) ∙ ap (λ l. x ∷ l) (not_has k xs (sym (in_other k x xs d) ∙ h)))

-- leaving a number out of distinct ones takes one away at most
length_without : (k : ℕ) (xs : List ℕ) → is_distinct xs ≡ true → length xs ≤ length (without k xs) + 1
length_without k [] h = omega arith
length_without k (x ∷ xs) h =
    let p = and_parts (not (is_in x xs)) (is_distinct xs) h in
    dite (ℕ_discrete k x)
    (λ e.
    let out : without k xs ≡ xs = not_has k xs (ap (λ i. is_in i xs) e ∙ not_true (is_in x xs) p.0) in
    let is : without k (x ∷ xs) ≡ xs = ap (λ b. if b then without k xs else x ∷ without k xs) (eq-eqb k x e) ∙ out in
    omega (arith, ap length is))
    (λ d.
    let is : without k (x ∷ xs) ≡ x ∷ without k xs = ap (λ b. if b then without k xs else x ∷ without k xs) (ne_eqb k x d) in
    omega (arith, ap length is, length_without k xs p.1))

-- what is left was there
in_kept : (j k : ℕ) (xs : List ℕ) → is_in j (without k xs) ≡ true → is_in j xs ≡ true
in_kept j k xs h = dite (ℕ_discrete j k)
    (λ e. absurd (true≢false (sym h ∙ (ap (λ i. is_in i (without k xs)) e ∙ in_without_same k xs))))
    (λ d. sym (in_without_other j k xs d) ∙ h)

-- distinct numbers stay distinct
distinct_without : (k : ℕ) (xs : List ℕ) → is_distinct xs ≡ true → is_distinct (without k xs) ≡ true
distinct_without k [] h = refl
distinct_without k (x ∷ xs) h =
    let p = and_parts (not (is_in x xs)) (is_distinct xs) h in
    dite (ℕ_discrete k x)
    (λ e. ap (λ b. is_distinct (if b then without k xs else x ∷ without k xs)) (eq-eqb k x e) ∙ distinct_without k xs p.1)
    (λ d.
    let away : is_in x (without k xs) ≡ false = not_so (is_in x (without k xs)) (λ kept. true≢false (sym (in_kept x k xs kept) ∙ not_true (is_in x xs) p.0)) in
    ap (λ b. is_distinct (if b then without k xs else x ∷ without k xs)) (ne_eqb k x d) ∙ and_both (not (is_in x (without k xs))) (is_distinct (without k xs)) (ap not away) (distinct_without k xs p.1))

lt_ltb : (a b : ℕ) → a < b → ltb a b ≡ true
lt_ltb a b h = grind arith

-- numbers below n + 1, without n, are below n
below_without : (n : ℕ) (xs : List ℕ) → all_below (suc n) xs ≡ true → all_below n (without n xs) ≡ true
below_without n [] h = refl
below_without n (x ∷ xs) h =
    let p = and_parts (ltb x (suc n)) (all_below (suc n) xs) h in
    let lt : x < suc n = ltb-true x (suc n) p.0 in
    dite (ℕ_discrete n x)
    (λ e. ap (λ b. all_below n (if b then without n xs else x ∷ without n xs)) (eq-eqb n x e) ∙ below_without n xs p.1)
    (λ d. let small : x < n = omega arith in ap (λ b. all_below n (if b then without n xs else x ∷ without n xs)) (ne_eqb n x d) ∙ and_both (ltb x n) (all_below n (without n xs)) (lt_ltb x n small) (below_without n xs p.1))

-- distinct numbers below n are n at most
few : (n : ℕ) (xs : List ℕ) → is_distinct xs ≡ true → all_below n xs ≡ true → length xs ≤ n
few n [] d b = omega arith
few zero (x ∷ xs) d b = absurd (let p = and_parts (ltb x 0) (all_below 0 xs) b in let lt : x < 0 = ltb-true x 0 p.0 in omega arith)
few (suc n) (x ∷ xs) d b =
    let l = length_without n (x ∷ xs) d in
    let m = few n (without n (x ∷ xs)) (distinct_without n (x ∷ xs) d) (below_without n (x ∷ xs) b) in
    omega arith

-- one more place fits
pub fits : (n k : ℕ) (xs : List ℕ) → is_distinct xs ≡ true → all_below n xs ≡ true → k < n → is_in k xs ≡ false → length xs < n
fits n k xs d b lt away =
    let m = few n (k ∷ xs) (and_both (not (is_in k xs)) (is_distinct xs) (ap not away) d) (and_both (ltb k n) (all_below n xs) (lt_ltb k n lt) b) in
    omega arith
