-- The lines of a text that count, line by line.
use Rattle.std.proofs.Common.{ℕ, ◌≡◌, ◌+◌, true, false, List, [], ◌∷◌, refl}
use Rattle.text_words.specs.Lines.{counting_lines_from, counts, lines_of, words_of}

pub counting_none : (n : ℕ) (text : List ℕ) → lines_of text ≡ [] → counting_lines_from n text ≡ []
unfolding counting_lines_from
counting_none n text none = rw none refl

-- a line that counts comes first
pub counting_first : (n : ℕ) (text line rest : List ℕ) → lines_of text ≡ line ∷ lines_of rest → counts (words_of line) ≡ true
    → counting_lines_from n text ≡ (record { number = n; words = words_of line }) ∷ counting_lines_from (n + 1) rest
unfolding counting_lines_from
counting_first n text line rest first passes = rw (first, passes) refl

-- any other is left out
pub counting_skip : (n : ℕ) (text line rest : List ℕ) → lines_of text ≡ line ∷ lines_of rest → counts (words_of line) ≡ false
    → counting_lines_from n text ≡ counting_lines_from (n + 1) rest
unfolding counting_lines_from
counting_skip n text line rest first fails = rw (first, fails) refl
