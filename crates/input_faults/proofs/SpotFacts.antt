-- A line has no more words than bytes, and its words begin where their columns say.
use Rattle.std.proofs.Common.{ℕ, zero, suc, ◌≡◌, ◌≤◌, ◌<◌, ◌+◌, ◌-◌, true, false, List, [], ◌∷◌, length, length-drop, take, drop, Option, Some, None, inl, inr, refl, sym, ap, ◌∙◌, arith}
use Rattle.std.proofs.lemmas.Bool.{cases_Bool}
use Rattle.std.proofs.lemmas.Option.{slice_get_past}
use Rattle.std.specs.Prelude.{slice_get, unwrap_or}
use Rattle.std.specs.List.{prefix_len}
use Rattle.text_words.specs.Lines.{Word, begins_with_word, is_blank, onto_first, words_of}
use Rattle.text_words.proofs.LineFacts.{words_of-empty, words_of-end, words_of-more, words_of-skip}
use Rattle.input_faults.specs.Places.{behind, takes}
use Rattle.input_faults.specs.Spots.{spot_from, start_of, word_end}
use Rattle.input_faults.specs.declared.place.Place.{Place}

onto_first-few : (b : ℕ) (texts : List (List ℕ)) → length (onto_first b texts) ≤ length texts + 1
onto_first-few b [] = omega arith
onto_first-few b (text ∷ texts) = omega arith

pub words_few : (line : List ℕ) → length (words_of line) ≤ length line
words_few [] = omega (arith, ap length words_of-empty)
words_few (b ∷ line) = elim (cases_Bool (is_blank b)) [
  | inl blank ↦ omega (arith, ap length (words_of-skip b line blank), words_few line)
  | inr word ↦ elim (cases_Bool (begins_with_word line)) [
    | inl goes ↦ omega (arith, ap length (words_of-more b line word goes), onto_first-few b (words_of line), words_few line)
    | inr ends ↦ omega (arith, ap length (words_of-end b line word ends), words_few line)
  ]
]

-- ---- the first word that may not stand where it stands

pub spot_end : (passed : ℕ) (at : Place) → spot_from passed at [] ≡ record { passed = passed; place = at }
unfolding spot_from
spot_end passed at = refl

pub spot_stop : (passed : ℕ) (at : Place) (word : Word) (words : List Word) → takes at word ≡ false → spot_from passed at (word ∷ words) ≡ record { passed = passed; place = at }
unfolding spot_from
spot_stop passed at word words stops = rw stops refl

pub spot_goes : (passed : ℕ) (at : Place) (word : Word) (words : List Word) → takes at word ≡ true → spot_from passed at (word ∷ words) ≡ spot_from (passed + 1) (behind at word) words
unfolding spot_from
spot_goes passed at word words goes = rw goes refl

-- ---- where a word begins

pub start_none : (line : List ℕ) → start_of 0 line ≡ prefix_len is_blank line
unfolding start_of
start_none line = refl

start_suc : (before : ℕ) (line : List ℕ) → start_of (suc before) line ≡ word_end line + start_of before (drop (word_end line) line)
unfolding start_of
start_suc before line = refl

pub start_more : (left : ℕ) (line : List ℕ) → 0 < left → start_of left line ≡ word_end line + start_of (left - 1) (drop (word_end line) line)
start_more left line some =
    let is_suc : left ≡ suc (left - 1) = omega (arith, some) in
    ap (λ n. start_of n line) is_suc ∙ start_suc (left - 1) line

-- ---- lists by their fronts

filled : {A : Type 0} {x : A} {xs : List A} → x ∷ xs ≡ [] → ⊥
filled e = cc

drop-suc : {A : Type 0} (n : ℕ) (xs : List A) (x : A) (rest : List A) → drop n xs ≡ x ∷ rest → drop (suc n) xs ≡ rest
drop-suc zero [] x rest e = absurd (filled (sym e))
drop-suc zero (y ∷ ys) x rest e = cc
drop-suc (suc n) [] x rest e = absurd (filled (sym e))
drop-suc (suc n) (y ∷ ys) x rest e = drop-suc n ys x rest e

drop-suc_none : {A : Type 0} (n : ℕ) (xs : List A) → drop n xs ≡ [] → drop (suc n) xs ≡ []
drop-suc_none zero [] e = refl
drop-suc_none zero (y ∷ ys) e = absurd (filled e)
drop-suc_none (suc n) [] e = refl
drop-suc_none (suc n) (y ∷ ys) e = drop-suc_none n ys e

pub drop_next : {A : Type 0} (n : ℕ) (xs : List A) (x : A) (rest : List A) → drop n xs ≡ x ∷ rest → drop (n + 1) xs ≡ rest
drop_next n xs x rest e = ap (λ k. drop k xs) (let same : n + 1 ≡ suc n = omega arith in same) ∙ drop-suc n xs x rest e

pub drop_next_none : {A : Type 0} (n : ℕ) (xs : List A) → drop n xs ≡ [] → drop (n + 1) xs ≡ []
drop_next_none n xs e = ap (λ k. drop k xs) (let same : n + 1 ≡ suc n = omega arith in same) ∙ drop-suc_none n xs e

pub get_here : {A : Type 0} (n : ℕ) (xs : List A) (x : A) (rest : List A) → drop n xs ≡ x ∷ rest → slice_get xs n ≡ Some x
get_here zero [] x rest e = absurd (filled (sym e))
get_here zero (y ∷ ys) x rest e = let same : y ≡ x = cc in ap Some same
get_here (suc n) [] x rest e = absurd (filled (sym e))
get_here (suc n) (y ∷ ys) x rest e = get_here n ys x rest e

pub get_none : {A : Type 0} (n : ℕ) (xs : List A) → drop n xs ≡ [] → slice_get xs n ≡ None
get_none zero [] e = refl
get_none zero (y ∷ ys) e = absurd (filled e)
get_none (suc n) [] e = refl
get_none (suc n) (y ∷ ys) e = get_none n ys e

-- ---- an item of a list

pub past_end : (xs : List (List ℕ)) (k n : ℕ) → drop k xs ≡ [] → k ≤ n → [] ≡ unwrap_or (slice_get xs n) []
past_end xs k n none within =
    let few : length xs ≤ n = omega (arith, length-drop k xs, ap length none, within) in
    sym (ap (λ (found : Option (List ℕ)). unwrap_or found []) (slice_get_past xs n few))

pub at_front : (xs : List (List ℕ)) (n : ℕ) (x : List ℕ) (rest : List (List ℕ)) → drop n xs ≡ x ∷ rest → x ≡ unwrap_or (slice_get xs n) []
at_front xs n x rest is = sym (ap (λ (found : Option (List ℕ)). unwrap_or found []) (get_here n xs x rest is))

take-none : (n : ℕ) → take {A = ℕ} n [] ≡ []
take-none zero = refl
take-none (suc n) = refl

-- a list that is short enough is taken whole
pub take_few : (n : ℕ) (xs : List ℕ) → length xs ≤ n → take n xs ≡ xs
take_few n [] few = take-none n
take_few zero (x ∷ xs) few = absurd (omega (arith, few))
take_few (suc n) (x ∷ xs) few = ap (λ rest. x ∷ rest) (take_few n xs (omega (arith, few)))
