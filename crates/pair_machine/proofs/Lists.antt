-- Facts on each message of a list.
use Rattle.std.proofs.Common.{◌≡◌, ◌⊎◌, inl, inr, List, [], ◌∷◌, ◌++◌, refl, sym, subst}
use Rattle.pair_machine.specs.Lists.{Among, Each}

pub each_append : {X : Type 0} (P : X → Type 0) (xs ys : List X) → Each P xs → Each P ys → Each P (xs ++ ys)
each_append P [] ys h k = k
each_append P (x ∷ xs) ys h k = (h.0, each_append P xs ys h.1 k)

pub each_left : {X : Type 0} (P : X → Type 0) (xs ys : List X) → Each P (xs ++ ys) → Each P xs
each_left P [] ys h = tt
each_left P (x ∷ xs) ys h = (h.0, each_left P xs ys h.1)

pub each_right : {X : Type 0} (P : X → Type 0) (xs ys : List X) → Each P (xs ++ ys) → Each P ys
each_right P [] ys h = h
each_right P (x ∷ xs) ys h = each_right P xs ys h.1

pub each_more : {X : Type 0} (P : X → Type 0) (xs : List X) (y : X) → Each P xs → P y → Each P (xs ++ y ∷ [])
each_more P xs y h k = each_append P xs (y ∷ []) h (k, tt)

pub each_map : {X : Type 0} (P Q : X → Type 0) → ((x : X) → P x → Q x) → (xs : List X) → Each P xs → Each Q xs
each_map P Q g [] h = tt
each_map P Q g (x ∷ xs) h = (g x h.0, each_map P Q g xs h.1)

pub each_at : {X : Type 0} (P : X → Type 0) (x : X) (xs : List X) → Among x xs → Each P xs → P x
each_at P x [] k h = absurd k
each_at P x (y ∷ ys) (inl e) h = subst P (sym e) h.0
each_at P x (y ∷ ys) (inr k) h = each_at P x ys k h.1

pub each_all : {X : Type 0} (P : X → Type 0) → ((x : X) → P x) → (xs : List X) → Each P xs
each_all P g [] = tt
each_all P g (x ∷ xs) = (g x, each_all P g xs)

pub among_append : {X : Type 0} (x : X) (xs ys : List X) → Among x (xs ++ ys) → Among x xs ⊎ Among x ys
among_append x [] ys k = inr k
among_append x (z ∷ xs) ys (inl e) = inl (inl e)
among_append x (z ∷ xs) ys (inr k) = go (among_append x xs ys k)
  where
    go : Among x xs ⊎ Among x ys → Among x (z ∷ xs) ⊎ Among x ys
    go (inl l) = inl (inr l)
    go (inr r) = inr r

pub among_left : {X : Type 0} (x : X) (xs ys : List X) → Among x xs → Among x (xs ++ ys)
among_left x [] ys k = absurd k
among_left x (z ∷ xs) ys (inl e) = inl e
among_left x (z ∷ xs) ys (inr k) = inr (among_left x xs ys k)

pub among_last : {X : Type 0} (x : X) (xs : List X) → Among x (xs ++ x ∷ [])
among_last x [] = inl refl
among_last x (z ∷ xs) = inr (among_last x xs)

pub among_more : {X : Type 0} (x : X) (xs : List X) (y : X) → Among x (xs ++ y ∷ []) → Among x xs ⊎ (x ≡ y)
among_more x xs y k = go (among_append x xs (y ∷ []) k)
  where
    go : Among x xs ⊎ Among x (y ∷ []) → Among x xs ⊎ (x ≡ y)
    go (inl l) = inl l
    go (inr (inl e)) = inr e
    go (inr (inr b)) = absurd b
