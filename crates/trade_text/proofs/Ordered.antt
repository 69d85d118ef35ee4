-- A list that is sorted stably is the one list in order.
use Rattle.std.proofs.Common.{ℕ, zero, suc, ◌≡◌, ◌+◌, ◌<◌, ◌≤◌, Bool, true, false, not, ◌&&◌, cond, if◌then◌else◌, List, [], ◌∷◌, length, map, get_or, refl, sym, ap, subst, ◌∙◌, arith}
use Rattle.std.specs.Prelude.{IsPermutation, IsSortedBy}
use Rattle.std.specs.Cmp.{IsStrictWeakOrder}
use Rattle.std.specs.List.{filter}
use Rattle.std.specs.List.Sorted.{IsStableBy, ties}
use Rattle.std.proofs.lemmas.Bool.{false≢true, true≢false}
use Rattle.std.proofs.lemmas.List.Sorted.{IsPermutation-cons, IsPermutation-middle, IsPermutation-refl, IsPermutation-sym, IsPermutation-trans, sorted_far}
use Rattle.trade_text.specs.Inputs.{in_order_by, put_by}

-- ---- a test through a function

module _ {X Y : Type 0} (f : X → Y) (lt : Y → Y → Bool) where
  put_by-map : (x : X) (ys : List X) → map f (put_by (λ a b. lt (f a) (f b)) x ys) ≡ put_by lt (f x) (map f ys)
  put_by-map x [] = refl
  put_by-map x (y ∷ ys) = go (lt (f y) (f x)) (put_by-map x ys)
    where
      go : (b : Bool) → map f (put_by (λ a b. lt (f a) (f b)) x ys) ≡ put_by lt (f x) (map f ys)
          → map f (if b then y ∷ put_by (λ a b. lt (f a) (f b)) x ys else x ∷ y ∷ ys) ≡ (if b then f y ∷ put_by lt (f x) (map f ys) else f x ∷ f y ∷ map f ys)
      go true rest = ap (λ zs. f y ∷ zs) rest
      go false rest = refl

  pub in_order_by-map : (xs : List X) → map f (in_order_by (λ a b. lt (f a) (f b)) xs) ≡ in_order_by lt (map f xs)
  in_order_by-map [] = refl
  in_order_by-map (x ∷ xs) = put_by-map x (in_order_by (λ a b. lt (f a) (f b)) xs) ∙ ap (put_by lt (f x)) (in_order_by-map xs)

module _ {X : Type 0} (lt : X → X → Bool) (o : IsStrictWeakOrder lt) where
  -- none of these is before x
  abbrev Above : X → List X → Type 0
  Above x [] = Unit {0}
  Above x (y ∷ ys) = (lt y x ≡ false) × Above x ys

  -- none is before an earlier one
  abbrev Up : List X → Type 0
  Up [] = Unit {0}
  Up (x ∷ xs) = Above x xs × Up xs

  none_itself : (x : X) → lt x x ≡ false
  none_itself x = go (lt x x) refl
    where
      go : (b : Bool) → lt x x ≡ b → b ≡ false
      go true e = sym e ∙ o.one_way x x e
      go false e = refl

  ties_itself : (x : X) → ties lt x x ≡ true
  ties_itself x = rw (none_itself x) refl

  -- ---- lists that rise

  above_at : (x : X) (ys : List X) → ((j : ℕ) (d : X) → j < length ys → lt (get_or ys j d) x ≡ false) → Above x ys
  above_at x [] at = tt
  above_at x (y ∷ ys) at = (at 0 y (omega arith), above_at x ys (λ j d l. at (suc j) d (omega arith)))

  up_at : (xs : List X) → ((i j : ℕ) (d : X) → i ≤ j → j < length xs → lt (get_or xs j d) (get_or xs i d) ≡ false) → Up xs
  up_at [] far = tt
  up_at (x ∷ xs) far = (above_at x xs (λ j d l. far 0 (suc j) d (omega arith) (omega arith)), up_at xs (λ i j d le l. far (suc i) (suc j) d (omega arith) (omega arith)))

  up_of : (xs : List X) → IsSortedBy lt xs → Up xs
  up_of xs up = up_at xs (sorted_far lt o xs up)

  sorted_at : (xs : List X) → Up xs → (k : ℕ) (d : X) → suc k < length xs → lt (get_or xs (suc k) d) (get_or xs k d) ≡ false
  sorted_at [] up k d l = absurd (omega arith)
  sorted_at (x ∷ []) up k d l = absurd (omega arith)
  sorted_at (x ∷ y ∷ xs) up zero d l = up.0.0
  sorted_at (x ∷ y ∷ xs) up (suc k) d l = sorted_at (y ∷ xs) up.1 k d (omega arith)

  next : (k : ℕ) → suc k ≡ k + 1
  next k = omega arith

  above_chain : (x y : X) (ys : List X) → lt y x ≡ false → Above y ys → Above x ys
  above_chain x y [] e above = tt
  above_chain x y (w ∷ ys) e above = (o.chain w y x above.0 e, above_chain x y ys e above.1)

  above_put : (w x : X) (ys : List X) → lt x w ≡ false → Above w ys → Above w (put_by lt x ys)
  above_put w x [] e above = (e, tt)
  above_put w x (y ∷ ys) e above = go (lt y x) (above_put w x ys e above.1)
    where
      go : (b : Bool) → Above w (put_by lt x ys) → Above w (if b then y ∷ put_by lt x ys else x ∷ y ∷ ys)
      go true rest = (above.0, rest)
      go false rest = (e, above)

  put_up : (x : X) (ys : List X) → Up ys → Up (put_by lt x ys)
  put_up x [] up = (tt, tt)
  put_up x (y ∷ ys) up = go (lt y x) refl (put_up x ys up.1)
    where
      go : (b : Bool) → lt y x ≡ b → Up (put_by lt x ys) → Up (if b then y ∷ put_by lt x ys else x ∷ y ∷ ys)
      go true e rest = (above_put y x ys (o.one_way y x e) up.0, rest)
      go false e rest = ((e, above_chain x y ys e up.0), up)

  order_up : (xs : List X) → Up (in_order_by lt xs)
  order_up [] = tt
  order_up (x ∷ xs) = put_up x (in_order_by lt xs) (order_up xs)

  pub order_sorted : (xs : List X) → IsSortedBy lt (in_order_by lt xs)
  order_sorted xs = λ k d low high.
      subst (λ n. lt (get_or (in_order_by lt xs) n d) (get_or (in_order_by lt xs) k d) ≡ false) (next k) (sorted_at (in_order_by lt xs) (order_up xs) k d (omega arith))

  -- ---- ties stay as they were

  both_tie : (w x y : X) → ties lt w x ≡ true → ties lt w y ≡ true → lt y x ≡ false
  both_tie w x y first second = go (lt w x) (lt x w) (lt w y) (lt y w) refl refl refl refl first second
    where
      go : (a b c d : Bool) → lt w x ≡ a → lt x w ≡ b → lt w y ≡ c → lt y w ≡ d → (not a && not b) ≡ true → (not c && not d) ≡ true → lt y x ≡ false
      go true b c d p q r s first second = absurd (false≢true first)
      go false true c d p q r s first second = absurd (false≢true first)
      go false false true d p q r s first second = absurd (false≢true second)
      go false false false true p q r s first second = absurd (false≢true second)
      go false false false false p q r s first second = o.chain y w x s p

  put_stable : (w x : X) (ys : List X) → filter (ties lt w) (put_by lt x ys) ≡ filter (ties lt w) (x ∷ ys)
  put_stable w x [] = refl
  put_stable w x (y ∷ ys) = go (lt y x) refl (put_stable w x ys)
    where
      f : List X → List X
      f zs = filter (ties lt w) zs

      apart : (a b : Bool) → ties lt w y ≡ a → ties lt w x ≡ b → lt y x ≡ true → cond a (y ∷ cond b (x ∷ f ys) (f ys)) (cond b (x ∷ f ys) (f ys)) ≡ cond b (x ∷ cond a (y ∷ f ys) (f ys)) (cond a (y ∷ f ys) (f ys))
      apart true true p q e = absurd (true≢false (sym e ∙ both_tie w x y q p))
      apart true false p q e = refl
      apart false true p q e = refl
      apart false false p q e = refl

      go : (b : Bool) → lt y x ≡ b → f (put_by lt x ys) ≡ f (x ∷ ys) → f (if b then y ∷ put_by lt x ys else x ∷ y ∷ ys) ≡ f (x ∷ y ∷ ys)
      go true e rest = ap (λ zs. cond (ties lt w y) (y ∷ zs) zs) rest ∙ apart (ties lt w y) (ties lt w x) refl refl e
      go false e rest = refl

  pub order_stable : (xs : List X) → IsStableBy lt xs (in_order_by lt xs)
  order_stable [] = λ w. refl
  order_stable (x ∷ xs) = λ w. put_stable w x (in_order_by lt xs) ∙ ap (λ zs. cond (ties lt w x) (x ∷ zs) zs) (order_stable xs w)

  -- ---- the same elements

  put_same : (x : X) (ys : List X) → IsPermutation (x ∷ ys) (put_by lt x ys)
  put_same x [] = IsPermutation-refl (x ∷ [])
  put_same x (y ∷ ys) = go (lt y x) (put_same x ys)
    where
      go : (b : Bool) → IsPermutation (x ∷ ys) (put_by lt x ys) → IsPermutation (x ∷ y ∷ ys) (if b then y ∷ put_by lt x ys else x ∷ y ∷ ys)
      go true rest =
          IsPermutation-trans (x ∷ y ∷ ys) (y ∷ x ∷ ys) (y ∷ put_by lt x ys) (IsPermutation-sym (y ∷ x ∷ ys) (x ∷ y ∷ ys) (IsPermutation-middle (y ∷ []) x ys))
          (IsPermutation-cons y (x ∷ ys) (put_by lt x ys) rest)
      go false rest = IsPermutation-refl (x ∷ y ∷ ys)

  pub order_same : (xs : List X) → IsPermutation xs (in_order_by lt xs)
  order_same [] = IsPermutation-refl []
  order_same (x ∷ xs) =
      IsPermutation-trans (x ∷ xs) (x ∷ in_order_by lt xs) (put_by lt x (in_order_by lt xs)) (IsPermutation-cons x xs (in_order_by lt xs) (order_same xs)) (put_same x (in_order_by lt xs))

  -- ---- there is one such list

  -- what is before one of a list that rises ties with none of it
  ties_none : (x y : X) (ys : List X) → lt x y ≡ true → Above y ys → filter (ties lt x) ys ≡ []
  ties_none x y [] e above = refl
  ties_none x y (w ∷ ys) e above = go (lt x w) refl (ties_none x y ys e above.1)
    where
      go : (b : Bool) → lt x w ≡ b → filter (ties lt x) ys ≡ [] → cond (not b && not (lt w x)) (w ∷ filter (ties lt x) ys) (filter (ties lt x) ys) ≡ []
      go true p rest = rest
      go false p rest = absurd (true≢false (sym e ∙ o.chain x w y p above.0))

  first_of : (y : X) (ys : List X) → filter (ties lt y) (y ∷ ys) ≡ y ∷ filter (ties lt y) ys
  first_of y ys = ap (λ b. cond b (y ∷ filter (ties lt y) ys) (filter (ties lt y) ys)) (ties_itself y)

  nothing : (y : X) (ys : List X) → y ∷ ys ≡ [] → ⊥
  nothing y ys e = cc e

  rest_same : (y z : X) (ys zs : List X) (x : X) → y ≡ z → filter (ties lt x) (y ∷ ys) ≡ filter (ties lt x) (z ∷ zs) → filter (ties lt x) ys ≡ filter (ties lt x) zs
  rest_same y z ys zs x same h = go (ties lt x y) (ties lt x z) refl (λ i. ties lt x (same i)) h
    where
      go : (a b : Bool) → ties lt x y ≡ a → a ≡ b
          → cond a (y ∷ filter (ties lt x) ys) (filter (ties lt x) ys) ≡ cond b (z ∷ filter (ties lt x) zs) (filter (ties lt x) zs) → filter (ties lt x) ys ≡ filter (ties lt x) zs
      go true true p q h = cc h
      go true false p q h = absurd (true≢false q)
      go false true p q h = absurd (false≢true q)
      go false false p q h = h

  one : (ys zs : List X) → Up ys → Up zs → ((x : X) → filter (ties lt x) ys ≡ filter (ties lt x) zs) → ys ≡ zs
  one [] [] up down h = refl
  one [] (z ∷ zs) up down h = absurd (nothing z (filter (ties lt z) zs) (sym (first_of z zs) ∙ sym (h z)))
  one (y ∷ ys) [] up down h = absurd (nothing y (filter (ties lt y) ys) (sym (first_of y ys) ∙ h y))
  one (y ∷ ys) (z ∷ zs) up down h = go (lt y z) (lt z y) refl refl (one ys zs up.1 down.1)
    where
      go : (a b : Bool) → lt y z ≡ a → lt z y ≡ b → (((x : X) → filter (ties lt x) ys ≡ filter (ties lt x) zs) → ys ≡ zs) → y ∷ ys ≡ z ∷ zs
      go true b p q tails = absurd (nothing y (filter (ties lt y) ys) (sym (first_of y ys) ∙ h y ∙ ties_none y z (z ∷ zs) p (none_itself z, down.0)))
      go false true p q tails = absurd (nothing z (filter (ties lt z) zs) (sym (first_of z zs) ∙ sym (h z) ∙ ties_none z y (y ∷ ys) q (none_itself y, up.0)))
      go false false p q tails =
          let tie : ties lt y z ≡ true = rw (p, q) refl in
          let heads : y ∷ filter (ties lt y) ys ≡ z ∷ filter (ties lt y) zs =
          sym (first_of y ys) ∙ h y ∙ ap (λ b. cond b (z ∷ filter (ties lt y) zs) (filter (ties lt y) zs)) tie in
          let same : y ≡ z = cc heads in
          let rest : ys ≡ zs = tails (λ x. rest_same y z ys zs x same (h x)) in
          λ i. same i ∷ rest i

  -- what a stable sort ensures
  pub sorted_is : (xs ys : List X) → IsSortedBy lt ys → IsStableBy lt xs ys → ys ≡ in_order_by lt xs
  sorted_is xs ys sorted stable = one ys (in_order_by lt xs) (up_of ys sorted) (order_up xs) (λ x. stable x ∙ sym (order_stable xs x))
