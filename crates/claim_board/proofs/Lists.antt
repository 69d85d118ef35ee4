-- Which numbers stand in a list, and lists after a write.
use Rattle.std.proofs.Common.{◌≡◌, ◌≢◌, ℕ, zero, suc, eqb, Bool, true, false, ◌||◌, ◌⊎◌, ⊎_elim, ◌++◌, if◌then◌else◌, eq-eqb, ne_eqb, List, [], ◌∷◌, length, get_or, set, refl, sym, ap, ◌∙◌, inl, inr, true≢false, arith, ◌<◌}
use mathlib.Core.Option.{some, some-injective, some-ne-none}
use mathlib.Core.Logic.{dite}
use native.Mathlib.Decide.{ℕ_discrete}
use lib.ListN.{get_elem?}
use Rattle.claim_board.specs.Lists.{is_in, without}

-- truth values
pub false≢true : false ≡ true → ⊥
false≢true e = true≢false (sym e)

pub zero_not_one : (n : ℕ) → n ≡ 0 → n ≡ 1 → ⊥
zero_not_one n z e = omega arith

pub or_cases : (b c : Bool) → (b || c) ≡ true → (b ≡ true) ⊎ (c ≡ true)
or_cases true c h = inl refl
or_cases false c h = inr h

pub or_left : (b c : Bool) → b ≡ true → (b || c) ≡ true
or_left b c h = ap (λ x. x || c) h

pub or_right : (b c : Bool) → c ≡ true → (b || c) ≡ true
or_right true c h = refl
or_right false c h = h

-- what can't be true is false
pub not_so : (b : Bool) → (b ≡ true → ⊥) → b ≡ false
not_so true f = absurd (f refl)
not_so false f = refl

-- where a number stands in a list that grows
pub in_head : (k : ℕ) (xs : List ℕ) → is_in k (k ∷ xs) ≡ true
in_head k xs = ap (λ b. b || is_in k xs) (eq-eqb k k refl)

pub in_other : (j k : ℕ) (xs : List ℕ) → j ≢ k → is_in j (k ∷ xs) ≡ is_in j xs
in_other j k xs n = ap (λ b. b || is_in j xs) (ne_eqb j k n)

pub in_more : (j k : ℕ) (xs : List ℕ) → is_in j xs ≡ true → is_in j (k ∷ xs) ≡ true
in_more j k xs h = or_right (eqb j k) (is_in j xs) h

-- where it stands once another, or it itself, is left out
pub in_without_other : (j k : ℕ) (xs : List ℕ) → j ≢ k → is_in j (without k xs) ≡ is_in j xs
in_without_other j k [] n = refl
in_without_other j k (x ∷ xs) n = dite (ℕ_discrete k x)
    (λ e. ap (λ b. is_in j (if b then without k xs else x ∷ without k xs)) (eq-eqb k x e) ∙ (in_without_other j k xs n ∙ sym (in_other j x xs (λ f. n (f ∙ sym e)))))
    (λ d. ap (λ b. is_in j (if b then without k xs else x ∷ without k xs)) (ne_eqb k x d) ∙ ap (λ b. eqb j x || b) (in_without_other j k xs n))

pub in_without_same : (k : ℕ) (xs : List ℕ) → is_in k (without k xs) ≡ false
in_without_same k [] = refl
in_without_same k (x ∷ xs) = dite (ℕ_discrete k x)
    (λ e. ap (λ b. is_in k (if b then without k xs else x ∷ without k xs)) (eq-eqb k x e) ∙ in_without_same k xs)
    (λ d. ap (λ b. is_in k (if b then without k xs else x ∷ without k xs)) (ne_eqb k x d) ∙ (in_other k x (without k xs) d ∙ in_without_same k xs))

-- a word that is written: with what it was, another one, or this one
pub stored_again : (ws : List ℕ) (i j : ℕ) → get_or (set ws i (get_or ws i 0)) j 0 ≡ get_or ws j 0
stored_again [] i j = refl
stored_again (w ∷ ws) zero zero = refl
stored_again (w ∷ ws) zero (suc j) = refl
stored_again (w ∷ ws) (suc i) zero = refl
stored_again (w ∷ ws) (suc i) (suc j) = stored_again ws i j

pub written_else : (ws : List ℕ) (i j n : ℕ) → j ≢ i → get_or (set ws i n) j 0 ≡ get_or ws j 0
written_else [] i j n d = refl
written_else (w ∷ ws) zero zero n d = absurd (d refl)
written_else (w ∷ ws) zero (suc j) n d = refl
written_else (w ∷ ws) (suc i) zero n d = refl
written_else (w ∷ ws) (suc i) (suc j) n d = written_else ws i j n (λ e. d (ap suc e))

pub written_here : (ws : List ℕ) (i n : ℕ) → i < length ws → get_or (set ws i n) i 0 ≡ n
written_here [] i n h = absurd (omega arith)
written_here (w ∷ ws) zero n h = refl
written_here (w ∷ ws) (suc i) n h = written_here ws i n (omega arith)

-- what stands at an index after a write
module _ {A : Type 0} where
  pub put_at : (l : List A) (i : ℕ) (a b : A) → get_elem? l i ≡ some a → get_elem? (set l i b) i ≡ some b
  put_at [] i a b e = absurd (some-ne-none a (sym e))
  put_at (x ∷ xs) zero a b e = refl
  put_at (x ∷ xs) (suc i) a b e = put_at xs i a b e

  pub one_at : (l : List A) (i : ℕ) (a b : A) → get_elem? l i ≡ some a → get_elem? l i ≡ some b → a ≡ b
  one_at l i a b e f = some-injective a b (sym e ∙ f)

-- a number of two lists stands in one of them
pub in_append : (k : ℕ) (xs ys : List ℕ) → is_in k (xs ++ ys) ≡ true → (is_in k xs ≡ true) ⊎ (is_in k ys ≡ true)
in_append k [] ys h = inr h
in_append k (x ∷ xs) ys h = dite (ℕ_discrete k x)
    (λ e. inl (ap (λ b. b || is_in k xs) (eq-eqb k x e)))
    (λ d. ⊎_elim (λ p. inl (in_other k x xs d ∙ p)) inr (in_append k xs ys (sym (in_other k x (xs ++ ys) d) ∙ h)))

-- k is the head, or stands behind it
pub in_split : (k x : ℕ) (xs : List ℕ) → is_in k (x ∷ xs) ≡ true → (k ≡ x) ⊎ (is_in k xs ≡ true)
in_split k x xs h = dite (ℕ_discrete k x) inl (λ d. inr (sym (in_other k x xs d) ∙ h))

-- an index of a list that grew by one
module _ {A : Type 0} where
  pub at_end : (l : List A) (a b : A) (j : ℕ) → get_elem? (l ++ a ∷ []) j ≡ some b → (get_elem? l j ≡ some b) ⊎ ((j ≡ length l) × (a ≡ b))
  at_end [] a b zero e = inr (refl, some-injective a b e)
  at_end [] a b (suc j) e = absurd (some-ne-none b (sym e))
  at_end (x ∷ xs) a b zero e = inl e
  at_end (x ∷ xs) a b (suc j) e = ⊎_elim inl (λ (t : (j ≡ length xs) × (a ≡ b)). inr (omega arith, t.1)) (at_end xs a b j e)

-- a number of one of two lists stands in both together
pub in_front : (k : ℕ) (xs ys : List ℕ) → is_in k xs ≡ true → is_in k (xs ++ ys) ≡ true
in_front k [] ys h = absurd (true≢false (sym h))
in_front k (x ∷ xs) ys h = ⊎_elim (λ p. or_left (eqb k x) (is_in k (xs ++ ys)) p) (λ p. or_right (eqb k x) (is_in k (xs ++ ys)) (in_front k xs ys p)) (or_cases (eqb k x) (is_in k xs) h)

pub in_back : (k : ℕ) (xs ys : List ℕ) → is_in k ys ≡ true → is_in k (xs ++ ys) ≡ true
in_back k [] ys h = h
in_back k (x ∷ xs) ys h = or_right (eqb k x) (is_in k (xs ++ ys)) (in_back k xs ys h)
