-- However many trades are made, no more than forty symbols become known.
use Rattle.std.proofs.Common.{ℕ, zero, suc, ◌≡◌, ◌<◌, ◌≤◌, ◌+◌, ◌==◌, Bool, true, false, cond, List, [], ◌∷◌, ◌++◌, length, Some, refl, sym, arith, nat_lt, inl, inr, length-append, subst}
use Rattle.std.specs.Prelude.{◌||◌}
use Rattle.std.specs.List.{list_any, position_or_len}
use Rattle.std.specs.Str.{bytes_eq}
use Rattle.std.proofs.lemmas.Bool.{cases_Bool, eqb-true, false≢true}
use Rattle.std.proofs.lemmas.Bool.Decides.{nat_tests}
use Rattle.std.proofs.lemmas.List.Folds.{list_any-append}
use Rattle.std.proofs.lemmas.Slice.Eq.{bytes_eq-Decides}
use Rattle.trade_text.specs.Symbols.{numbered}
use Rattle.trade_maker.proofs.MadeFields.{symbol_text}

-- ---- a look among texts

found : {X : Type 0} (p : X → Bool) (xs : List X) → list_any p xs ≡ true → position_or_len p xs < length xs
found p [] some = absurd (false≢true some)
found p (x ∷ xs) some = elim (cases_Bool (p x)) [
  | inl here ↦ rw here (omega arith)
  | inr other ↦
      let later = found p xs (rw other at some) in
      rw other (omega (arith, later))
]

not_found : {X : Type 0} (p : X → Bool) (xs : List X) → list_any p xs ≡ false → position_or_len p xs ≡ length xs
not_found p [] none = refl
not_found p (x ∷ xs) none = elim (cases_Bool (p x)) [
  | inl here ↦ absurd (false≢true (sym (rw here at none)))
  | inr other ↦
      let later = not_found p xs (rw other at none) in
      rw (other, later) (omega arith)
]

-- ---- the symbols that are not known yet

abbrev pub is_known : List (List ℕ) → List ℕ → Bool
is_known known name = list_any (bytes_eq name) known

-- how many of the first symbols are not known
unfoldable pub missing : ℕ → List (List ℕ) → ℕ
missing zero known = 0
missing (suc n) known = cond (is_known known (symbol_text n)) 0 1 + missing n known

known_more : (known : List (List ℕ)) (name new : List ℕ) → is_known (known ++ new ∷ []) name ≡ (is_known known name || (bytes_eq name new || false))
known_more known name new = list_any-append (bytes_eq name) known (new ∷ [])

fewer : (was is : Bool) → cond (was || is) 0 1 ≤ cond was 0 1
fewer true is = omega arith
fewer false true = omega arith
fewer false false = omega arith

-- no more are missing with one more known
no_more : (n : ℕ) (known : List (List ℕ)) (new : List ℕ) → missing n (known ++ new ∷ []) ≤ missing n known
unfolding missing
no_more zero known new = omega arith
no_more (suc n) known new =
    let later = no_more n known new in
    let here = fewer (is_known known (symbol_text n)) (bytes_eq (symbol_text n) new || false) in
    rw (known_more known (symbol_text n) new) (omega (arith, here, later))

same_text : (text : List ℕ) → bytes_eq text text ≡ true
same_text text = (bytes_eq-Decides text text).1 refl

-- the last of the first symbols becomes known
last_less : (s : ℕ) (known : List (List ℕ)) → is_known known (symbol_text s) ≡ false → missing (suc s) (known ++ symbol_text s ∷ []) + 1 ≤ missing (suc s) known
unfolding missing
last_less s known new =
    let later = no_more s known (symbol_text s) in
    rw (known_more known (symbol_text s) (symbol_text s), new, same_text (symbol_text s)) (omega (arith, later))

-- one of the first symbols becomes known
one_less : (n s : ℕ) (known : List (List ℕ)) → s < n → is_known known (symbol_text s) ≡ false → missing n (known ++ symbol_text s ∷ []) + 1 ≤ missing n known
unfolding missing
one_less zero s known below new = absurd (omega (arith, below))
one_less (suc n) s known below new = elim (cases_Bool (s == n)) [
  | inl same ↦ subst (λ (k : ℕ). missing (suc k) (known ++ symbol_text s ∷ []) + 1 ≤ missing (suc k) known) (eqb-true s n same) (last_less s known new)
  | inr other ↦
      let before : s < n = grind (arith, nat_tests, below, other) in
      let later = one_less n s known before new in
      let here = fewer (is_known known (symbol_text n)) (bytes_eq (symbol_text n) (symbol_text s) || false) in
      rw (known_more known (symbol_text n) (symbol_text s)) (omega (arith, here, later))
]

-- the symbols known are among the first forty
abbrev pub AreFew : List (List ℕ) → Type 0
AreFew known = length known + missing 40 known ≤ 40

-- what the number of a symbol leaves
pub record Numbered (known : List (List ℕ)) (name : List ℕ) : Type 0 where
  pub number : ℕ
  pub after : List (List ℕ)
  pub is : numbered known name ≡ Some (number, after)
  pub few : AreFew after

pub symbol_numbered : (s : ℕ) (known : List (List ℕ)) → s < 40 → AreFew known → Numbered known (symbol_text s)
symbol_numbered s known below few = elim (cases_Bool (is_known known (symbol_text s))) [
  | inl old ↦
      let place = position_or_len (bytes_eq (symbol_text s)) known in
      let test : nat_lt place (length known) ≡ true = grind (arith, nat_tests, found (bytes_eq (symbol_text s)) known old) in
      record { number = place + 1; after = known; is = rw test refl; few = few }
  | inr new ↦
      let test : nat_lt (length known) (length known) ≡ false = grind (arith, nat_tests) in
      let room : nat_lt (length known) 4096 ≡ true = grind (arith, nat_tests, few) in
      record {
        number = length known + 1;
        after = known ++ symbol_text s ∷ [];
        is = rw (not_found (bytes_eq (symbol_text s)) known new, test, room) refl;
        few = omega (arith, few, length-append known (symbol_text s ∷ []), one_less 40 s known below new);
      }
]
