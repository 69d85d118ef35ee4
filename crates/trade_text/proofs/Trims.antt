-- Blanks at the ends of a field.
use Rattle.std.proofs.Common.{ℕ, ◌≡◌, ◌&&◌, IsTrue, nat_lt, Bool, true, false, cond, List, [], ◌∷◌, ◌++◌, length, refl, sym, ap, ◌∙◌, arith}
use Rattle.std.proofs.lemmas.Bool.Decides.{nat_tests}
use Rattle.text_words.specs.Lines.{is_blank}
use Rattle.trade_text.specs.Fields.{drop_blanks, is_none_left, trim_end}

pub drop_blanks-skip : (field : List ℕ) (b : ℕ) (rest : List ℕ) → field ≡ b ∷ rest → is_blank b ≡ true → drop_blanks rest ≡ drop_blanks field
unfolding drop_blanks
drop_blanks-skip field b rest e blank = rw (e, blank) refl

pub drop_blanks-stop : (field : List ℕ) (b : ℕ) (rest : List ℕ) → field ≡ b ∷ rest → is_blank b ≡ false → drop_blanks field ≡ field
unfolding drop_blanks
drop_blanks-stop field b rest e none = rw (e, none) refl

pub drop_blanks-none : (field : List ℕ) → length field ≡ 0 → drop_blanks field ≡ field
unfolding drop_blanks
drop_blanks-none [] e = refl
drop_blanks-none (b ∷ field) e = absurd (omega arith)

and_false : (t : Bool) → (t && false) ≡ false
and_false true = refl
and_false false = refl

some_left : (front : List ℕ) (b : ℕ) → is_none_left (front ++ b ∷ []) ≡ false
some_left [] b = refl
some_left (x ∷ front) b = refl

trim_end-blank : (front : List ℕ) (b : ℕ) → is_blank b ≡ true → trim_end (front ++ b ∷ []) ≡ trim_end front
unfolding trim_end
trim_end-blank [] b blank = rw blank refl
trim_end-blank (x ∷ front) b blank = ap (λ rest. cond (is_blank x && is_none_left rest) [] (x ∷ rest)) (trim_end-blank front b blank)

trim_end-word : (front : List ℕ) (b : ℕ) → is_blank b ≡ false → trim_end (front ++ b ∷ []) ≡ front ++ b ∷ []
unfolding trim_end
trim_end-word [] b none = rw none refl
trim_end-word (x ∷ front) b none =
    ap (λ rest. cond (is_blank x && is_none_left rest) [] (x ∷ rest)) (trim_end-word front b none)
    ∙ ap (λ t. cond (is_blank x && t) [] (x ∷ front ++ b ∷ [])) (some_left front b)
    ∙ ap (λ t. cond t [] (x ∷ front ++ b ∷ [])) (and_false (is_blank x))

pub trim_end-skip : (field front : List ℕ) (b : ℕ) → field ≡ front ++ b ∷ [] → is_blank b ≡ true → trim_end front ≡ trim_end field
trim_end-skip field front b e blank = sym (ap trim_end e ∙ trim_end-blank front b blank)

pub trim_end-stop : (field front : List ℕ) (b : ℕ) → field ≡ front ++ b ∷ [] → is_blank b ≡ false → trim_end field ≡ field
trim_end-stop field front b e none = ap trim_end e ∙ trim_end-word front b none ∙ sym e

pub trim_end-none : (field : List ℕ) → length field ≡ 0 → trim_end field ≡ field
unfolding trim_end
trim_end-none [] e = refl
trim_end-none (b ∷ field) e = absurd (omega arith)

-- a byte above the blanks is none
pub above_blanks : (b : ℕ) → IsTrue (nat_lt 32 b) → is_blank b ≡ false
above_blanks b above = grind (arith, nat_tests)
