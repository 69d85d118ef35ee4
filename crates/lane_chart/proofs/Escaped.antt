-- Of an escaped text no byte begins or ends a tag or a value.
use Rattle.std.proofs.Common.{◌≡◌, ℕ, Bool, true, false, ◌&&◌, cond, eqb, List, [], ◌∷◌, ◌++◌, codes, ltb, refl}
use Rattle.lane_chart.specs.Escape.{are_plain, escape, escaped, is_plain}

and_step : (a b c : Bool) → (a && b) ≡ true → (b ≡ true → c ≡ true) → (a && c) ≡ true
and_step true b c both more = more both
and_step false b c both more = both

joined_plain : (xs ys : List ℕ) → are_plain xs ≡ true → are_plain ys ≡ true → are_plain (xs ++ ys) ≡ true
joined_plain [] ys p q = q
joined_plain (x ∷ xs) ys p q = and_step (is_plain x) (are_plain xs) (are_plain (xs ++ ys)) p (λ r. joined_plain xs ys r q)

chosen_plain : (b : ℕ) (ampersand less greater double single control : Bool) → eqb b 60 ≡ less → eqb b 62 ≡ greater → eqb b 34 ≡ double → eqb b 39 ≡ single
    → are_plain (cond ampersand (codes "&amp;") (cond less (codes "&lt;") (cond greater (codes "&gt;") (cond double (codes "&quot;") (cond single (codes "&#39;") (cond control (codes " ") (b ∷ []))))))) ≡ true
chosen_plain b true l g d s k el eg ed es = refl
chosen_plain b false true g d s k el eg ed es = refl
chosen_plain b false false true d s k el eg ed es = refl
chosen_plain b false false false true s k el eg ed es = refl
chosen_plain b false false false false true k el eg ed es = refl
chosen_plain b false false false false false true el eg ed es = refl
chosen_plain b false false false false false false el eg ed es = rw (el, eg, ed, es) refl

byte_plain : (b : ℕ) → are_plain (escape b) ≡ true
byte_plain b = chosen_plain b (eqb b 38) (eqb b 60) (eqb b 62) (eqb b 34) (eqb b 39) (ltb b 32) refl refl refl refl

pub escaped_plain : (text : List ℕ) → are_plain (escaped text) ≡ true
escaped_plain [] = refl
escaped_plain (b ∷ bs) = joined_plain (escape b) (escaped bs) (byte_plain b) (escaped_plain bs)
