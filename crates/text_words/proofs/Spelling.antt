-- A line of words with single spaces and LF is read as these words.
use Rattle.std.proofs.Common.{ℕ, ◌≡◌, ◌<◌, ◌≤◌, ◌+◌, ◌*◌, ◌==◌, ◌&&◌, not, Bool, true, false, List, [], ◌∷◌, ◌++◌, length, refl, sym, ap, ◌∙◌, arith, append_assoc, length-append}
use Rattle.std.proofs.lemmas.Bool.{true≢false}
use Rattle.std.proofs.lemmas.List.Folds.{list_all-append}
use Rattle.std.specs.List.{flat_map, join_with_byte, list_all}
use Rattle.text_words.specs.Lines.{LineView, Word, begins_with_end, counting_lines_from, counts, is_blank, lines_of, onto_first, words_of}
use Rattle.text_words.specs.Text.{line_text}
use Rattle.text_words.proofs.CountingLines.{counting_first, counting_none}
use Rattle.text_words.proofs.LineFacts.{both_true, lines_of-empty, lines_of-end, lines_of-more, words_of-empty, words_of-end, words_of-more, words_of-skip}

-- a byte that ends no line
abbrev pub is_inside : ℕ → Bool
is_inside b = not (b == 10) && not (b == 13)

-- a byte that ends no word and no line
abbrev pub is_plain : ℕ → Bool
is_plain b = not (is_blank b) && is_inside b

-- a word of 1 to 30 bytes, each plain
pub record IsPlainWord (word : Word) : Type 0 where
  pub some : 0 < length word
  pub few : length word ≤ 30
  pub plain : list_all is_plain word ≡ true

abbrev pub ArePlainWords : List Word → Type 0
ArePlainWords [] = Unit {0}
ArePlainWords (word ∷ words) = IsPlainWord word × ArePlainWords words

-- the words of a line that counts: at most 13
pub record IsPlainLine (words : List Word) : Type 0 where
  pub counts : counts words ≡ true
  pub few : length words ≤ 13
  pub plain : ArePlainWords words

abbrev pub ArePlainLines : List (List Word) → Type 0
ArePlainLines [] = Unit {0}
ArePlainLines (words ∷ lines) = IsPlainLine words × ArePlainLines lines

-- ---- lines

not_true : (t : Bool) → not t ≡ true → t ≡ false
not_true true e = absurd (true≢false (sym e))
not_true false e = refl

lines_of_line : (line rest : List ℕ) → list_all is_inside line ≡ true → lines_of (line ++ 10 ∷ rest) ≡ line ∷ lines_of rest
lines_of_line [] rest inside = lines_of-end 10 rest refl
lines_of_line (b ∷ line) rest inside =
    let (here, later) = both_true (is_inside b) (list_all is_inside line) inside in
    let (no_end, no_return) = both_true (not (b == 10)) (not (b == 13)) here in
    lines_of-more b (line ++ 10 ∷ rest) (not_true (b == 10) no_end) (ap (λ t. t && begins_with_end (line ++ 10 ∷ rest)) (not_true (b == 13) no_return))
    ∙ ap (onto_first b) (lines_of_line line rest later)

-- the bytes of a plain word end no line
inside_word : (word : List ℕ) → list_all is_plain word ≡ true → list_all is_inside word ≡ true
inside_word [] plain = refl
inside_word (b ∷ word) plain =
    let (here, later) = both_true (is_plain b) (list_all is_plain word) plain in
    let (no_blank, inside) = both_true (not (is_blank b)) (is_inside b) here in
    rw (inside, inside_word word later) refl

inside_words : (words : List Word) → ArePlainWords words → list_all is_inside (join_with_byte 32 words) ≡ true
inside_words [] plain = refl
inside_words (word ∷ []) plain = inside_word word plain.0.plain
inside_words (word ∷ next ∷ words) plain =
    list_all-append is_inside word (32 ∷ join_with_byte 32 (next ∷ words))
    ∙ rw (inside_word word plain.0.plain, inside_words (next ∷ words) plain.1) refl

-- ---- words

-- a word up to the space after it
words_of_word : (b : ℕ) (word more : List ℕ) → list_all is_plain (b ∷ word) ≡ true → words_of (b ∷ (word ++ 32 ∷ more)) ≡ (b ∷ word) ∷ words_of more
words_of_word b [] more plain =
    let (here, later) = both_true (is_plain b) true plain in
    let (no_blank, inside) = both_true (not (is_blank b)) (is_inside b) here in
    words_of-end b (32 ∷ more) (not_true (is_blank b) no_blank) refl ∙ ap (λ words. (b ∷ []) ∷ words) (words_of-skip 32 more refl)
words_of_word b (c ∷ word) more plain =
    let (here, later) = both_true (is_plain b) (list_all is_plain (c ∷ word)) plain in
    let (next, last) = both_true (is_plain c) (list_all is_plain word) later in
    let (no_blank, inside) = both_true (not (is_blank b)) (is_inside b) here in
    let (next_no_blank, next_inside) = both_true (not (is_blank c)) (is_inside c) next in
    words_of-more b (c ∷ (word ++ 32 ∷ more)) (not_true (is_blank b) no_blank) next_no_blank ∙ ap (onto_first b) (words_of_word c word more later)

-- the last word
words_of_last : (b : ℕ) (word : List ℕ) → list_all is_plain (b ∷ word) ≡ true → words_of (b ∷ word) ≡ (b ∷ word) ∷ []
words_of_last b [] plain =
    let (here, later) = both_true (is_plain b) true plain in
    let (no_blank, inside) = both_true (not (is_blank b)) (is_inside b) here in
    words_of-end b [] (not_true (is_blank b) no_blank) refl ∙ ap (λ words. (b ∷ []) ∷ words) words_of-empty
words_of_last b (c ∷ word) plain =
    let (here, later) = both_true (is_plain b) (list_all is_plain (c ∷ word)) plain in
    let (next, last) = both_true (is_plain c) (list_all is_plain word) later in
    let (no_blank, inside) = both_true (not (is_blank b)) (is_inside b) here in
    let (next_no_blank, next_inside) = both_true (not (is_blank c)) (is_inside c) next in
    words_of-more b (c ∷ word) (not_true (is_blank b) no_blank) next_no_blank ∙ ap (onto_first b) (words_of_last c word later)

words_of_joined : (words : List Word) → ArePlainWords words → words_of (join_with_byte 32 words) ≡ words
words_of_joined [] plain = words_of-empty
words_of_joined ([] ∷ words) plain = absurd (omega (arith, plain.0.some))
words_of_joined ((b ∷ word) ∷ []) plain = words_of_last b word plain.0.plain
words_of_joined ((b ∷ word) ∷ next ∷ words) plain =
    words_of_word b word (join_with_byte 32 (next ∷ words)) plain.0.plain ∙ ap (λ more. (b ∷ word) ∷ more) (words_of_joined (next ∷ words) plain.1)

-- ---- texts

-- lines of words, numbered from here on
abbrev pub spelled : ℕ → List (List Word) → List LineView
spelled number [] = []
spelled number (words ∷ lines) = record { number = number; words = words } ∷ spelled (number + 1) lines

pub counting_spelled : (number : ℕ) (lines : List (List Word)) → ArePlainLines lines → counting_lines_from number (flat_map line_text lines) ≡ spelled number lines
counting_spelled number [] plain = counting_none number [] lines_of-empty
counting_spelled number (words ∷ lines) plain =
    let line = join_with_byte 32 words in
    let rest = flat_map line_text lines in
    let split : lines_of (line_text words ++ rest) ≡ line ∷ lines_of rest
    = ap lines_of (append_assoc line (10 ∷ []) rest) ∙ lines_of_line line rest (inside_words words plain.0.plain) in
    let same = words_of_joined words plain.0.plain in
    counting_first number (line_text words ++ rest) line rest split (ap counts same ∙ plain.0.counts)
    ∙ rw (same, counting_spelled (number + 1) lines plain.1) refl

-- ---- lengths

length_joined : (words : List Word) → ArePlainWords words → length (join_with_byte 32 words) ≤ 31 * length words
length_joined [] plain = omega arith
length_joined (word ∷ []) plain = omega (arith, plain.0.few)
length_joined (word ∷ next ∷ words) plain =
    omega (arith, length-append word (32 ∷ join_with_byte 32 (next ∷ words)), plain.0.few, length_joined (next ∷ words) plain.1)

length_line : (words : List Word) → IsPlainLine words → length (line_text words) ≤ 404
length_line words plain = omega (arith, length-append (join_with_byte 32 words) (10 ∷ []), length_joined words plain.plain, plain.few)

pub length_text : (lines : List (List Word)) → ArePlainLines lines → length (flat_map line_text lines) ≤ 404 * length lines
length_text [] plain = omega arith
length_text (words ∷ lines) plain =
    omega (arith, length-append (line_text words) (flat_map line_text lines), length_line words plain.0, length_text lines plain.1)
