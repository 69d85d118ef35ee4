-- Boolean tests: a choice by one, and what it says where it holds or fails.
use Rattle.std.proofs.Common.{◌≡◌, ◌≢◌, ℕ, Bool, true, false, ◌&&◌, refl}
use Rattle.std.specs.Prelude.{◌==◌, if◌then◌else◌}
use Rattle.std.proofs.lemmas.Bool.{eqb-true, eq-eqb}

pub if_elim : {X : Type 0} (P : X → Type 0) (c : Bool) (x y : X) → (c ≡ true → P x) → (c ≡ false → P y) → P (if c then x else y)
if_elim P true x y p q = p refl
if_elim P false x y p q = q refl

pub both : (a b : Bool) → (a && b) ≡ true → (a ≡ true) × (b ≡ true)
both true b e = (refl, e)
both false b e = cc

pub nat_self : (n : ℕ) → (n == n) ≡ true
nat_self n = eq-eqb n n refl

pub nat_not : (m n : ℕ) → m ≢ n → (m == n) ≡ false
nat_not m n h = if_not (m == n) (eqb-true m n)
  where
    if_not : (c : Bool) → (c ≡ true → m ≡ n) → c ≡ false
    if_not true g = absurd (h (g refl))
    if_not false g = refl
