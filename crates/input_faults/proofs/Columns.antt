-- A word of a line begins where its column says.
use Rattle.std.proofs.Common.{ℕ, zero, suc, ◌≡◌, ◌+◌, Bool, true, false, List, [], ◌∷◌, drop, take, inl, inr, refl, sym, ap, ◌∙◌, arith}
use Rattle.std.proofs.lemmas.Bool.{cases_Bool}
use Rattle.std.proofs.Math.Seq.{drop-nil}
use Rattle.std.specs.List.{prefix_len}
use Rattle.text_words.specs.Lines.{is_blank, words_of}
use Rattle.text_words.proofs.LineFacts.{in_word, word_first, word_none, words_of-blanks}
use Rattle.input_faults.specs.Spots.{start_of, word_end}

drop-plus : {A : Type 0} (n k : ℕ) (xs : List A) → drop (n + k) xs ≡ drop k (drop n xs)
drop-plus zero k xs = ap (λ m. drop m xs) (let same : 0 + k ≡ k = omega arith in same)
drop-plus (suc n) k [] = drop-nil (suc n + k) ∙ sym (drop-nil k)
drop-plus (suc n) k (x ∷ xs) = ap (λ m. drop m (x ∷ xs)) (let same : suc n + k ≡ suc (n + k) = omega arith in same) ∙ drop-plus n k xs

filled : {A : Type 0} {x : A} {xs : List A} → x ∷ xs ≡ [] → ⊥
filled e = cc

run_more : (p : ℕ → Bool) (b : ℕ) (xs : List ℕ) → p b ≡ true → prefix_len p (b ∷ xs) ≡ suc (prefix_len p xs)
run_more p b xs passes = rw passes (omega arith)

run_none : (p : ℕ → Bool) (b : ℕ) (xs : List ℕ) → p b ≡ false → prefix_len p (b ∷ xs) ≡ 0
run_none p b xs fails = rw fails refl

-- what a run stops at doesn't pass
head_stops : (p : ℕ → Bool) (xs : List ℕ) (b : ℕ) (rest : List ℕ) → drop (prefix_len p xs) xs ≡ b ∷ rest → p b ≡ false
head_stops p [] b rest e = absurd (filled (sym e))
head_stops p (x ∷ xs) b rest e = elim (cases_Bool (p x)) [
  | inl passes ↦ head_stops p xs b rest (sym (ap (λ n. drop n (x ∷ xs)) (run_more p x xs passes)) ∙ e)
  | inr fails ↦ let all : x ∷ xs ≡ b ∷ rest = sym (ap (λ n. drop n (x ∷ xs)) (run_none p x xs fails)) ∙ e in let same : x ≡ b = cc in sym (ap p same) ∙ fails
]

start_zero : (line : List ℕ) → start_of 0 line ≡ prefix_len is_blank line
unfolding start_of
start_zero line = refl

start_suc : (before : ℕ) (line : List ℕ) → start_of (suc before) line ≡ word_end line + start_of before (drop (word_end line) line)
unfolding start_of
start_suc before line = refl

-- what stands behind the first word of a line: the other words
words_behind : (line text : List ℕ) (blanks n : ℕ) → blanks ≡ prefix_len is_blank line → text ≡ drop blanks line → n ≡ prefix_len in_word text
    → words_of (drop (blanks + n) line) ≡ drop 1 (words_of line)
words_behind line text blanks zero blanks_is text_is n_is =
    let skipped : text ≡ drop (prefix_len is_blank line) line = text_is ∙ ap (λ k. drop k line) blanks_is in
    let nothing : words_of line ≡ [] = word_none line text 0 skipped n_is refl in
    ap words_of (drop-plus blanks 0 line) ∙ ap words_of (sym text_is) ∙ ap words_of skipped ∙ sym (words_of-blanks line) ∙ nothing ∙ sym (ap (drop 1) nothing)
words_behind line text blanks (suc n) blanks_is text_is n_is =
    let skipped : text ≡ drop (prefix_len is_blank line) line = text_is ∙ ap (λ k. drop k line) blanks_is in
    let first = word_first line text (take (suc n) text) (drop (suc n) text) (suc n) skipped n_is (λ e. absurd (omega (arith, e))) refl refl in
    ap words_of (drop-plus blanks (suc n) line) ∙ ap (λ (bytes : List ℕ). words_of (drop (suc n) bytes)) (sym text_is) ∙ sym (ap (drop 1) first)

behind_end : (line : List ℕ) → words_of (drop (word_end line) line) ≡ drop 1 (words_of line)
behind_end line = words_behind line (drop (prefix_len is_blank line) line) (prefix_len is_blank line) (prefix_len in_word (drop (prefix_len is_blank line) line)) refl refl refl

pub words_at : (line : List ℕ) (before : ℕ) → words_of (drop (start_of before line) line) ≡ drop before (words_of line)
words_at line zero = ap (λ k. words_of (drop k line)) (start_zero line) ∙ sym (words_of-blanks line)
words_at line (suc before) =
    let rest : List ℕ = drop (word_end line) line in
    ap (λ k. words_of (drop k line)) (start_suc before line)
    ∙ ap words_of (drop-plus (word_end line) (start_of before rest) line)
    ∙ words_at rest before
    ∙ ap (drop before) (behind_end line)
    ∙ sym (drop-plus 1 before (words_of line)) ∙ ap (λ k. drop k (words_of line)) (let same : 1 + before ≡ suc before = omega arith in same)

pub no_blank : (line : List ℕ) (before b : ℕ) (rest : List ℕ) → drop (start_of before line) line ≡ b ∷ rest → is_blank b ≡ false
no_blank line zero b rest is = head_stops is_blank line b rest (sym (ap (λ k. drop k line) (start_zero line)) ∙ is)
no_blank line (suc before) b rest is =
    let more : List ℕ = drop (word_end line) line in
    no_blank more before b rest (sym (drop-plus (word_end line) (start_of before more) line) ∙ sym (ap (λ k. drop k line) (start_suc before line)) ∙ is)
