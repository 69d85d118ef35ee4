-- Where a line is refused: the word, where it begins, and its place in the grammar.
use Rattle.std.specs.Prelude.{ℕ, zero, suc, Bool, true, false, not, ◌+◌, ◌-◌, ◌||◌, ◌==◌, nat_lt, List, [], ◌∷◌, drop, slice_get, unwrap_or, codes, if◌then◌else◌}
use Rattle.std.specs.List.{prefix_len}
use Rattle.std.specs.Str.{bytes_eq}
use Rattle.text_words.specs.Lines.{LineView, Word, is_blank, lines_of, words_of}
use Rattle.plan_reader.specs.Limits.{max_stages}
use Rattle.input_faults.specs.Places.{behind, takes}
use Rattle.input_faults.specs.declared.place.Before.{Before}
use Rattle.input_faults.specs.declared.place.Place.{Place}
use Rattle.input_faults.specs.declared.place.Place.TheVariants as place
use Rattle.input_faults.specs.declared.spot.Spot.{Spot}

-- ---- the first word that may not stand where it stands

-- the spot of words that begin at a place, behind so many words
unfoldable pub spot_from : ℕ → Place → List Word → Spot
spot_from passed at [] = record { passed = passed; place = at }
spot_from passed at (word ∷ words) = if takes at word then spot_from (passed + 1) (behind at word) words else record { passed = passed; place = at }

-- the spot of a line whose first word stands at a place: at its first word that may not stand where it stands, else behind its last word
abbrev pub spot_of : Place → List ℕ → Spot
spot_of at line = spot_from 0 at (words_of line)

-- ---- where a word stands

-- the line of this number; a text that hasn't so many has an empty one
abbrev pub line_of : ℕ → List ℕ → List ℕ
line_of number bytes = unwrap_or (slice_get (lines_of bytes) (number - 1)) []

-- how many bytes of a line stand before the end of its first word
abbrev pub word_end : List ℕ → ℕ
word_end line = prefix_len is_blank line + prefix_len (λ b. not (is_blank b)) (drop (prefix_len is_blank line) line)

-- how many bytes of a line stand before the word that has so many words before it; all of them where there is no such word
unfoldable pub start_of : ℕ → List ℕ → ℕ
start_of zero line = prefix_len is_blank line
start_of (suc before) line = word_end line + start_of before (drop (word_end line) line)

-- ---- what the lines before have said

-- no line before has said anything
abbrev pub nothing_said : Before
nothing_said = record { mark = false; hold = false; stages = 0; joins = false }

-- whether the words behind `stage` name a join: the operator's name is the sixth of them
abbrev pub is_join_line : List Word → Bool
is_join_line words = bytes_eq (unwrap_or (slice_get words 5) []) (codes "join")

-- what was said, with a stage that has these words behind its first one
abbrev pub with_stage : Before → List Word → Before
with_stage before words = record before { stages = if nat_lt before.stages max_stages then before.stages + 1 else before.stages; joins = before.joins || is_join_line words }

-- what was said, with a line of these words
abbrev pub with_words : Before → List Word → Before
with_words before [] = before
with_words before (word ∷ words) =
    if bytes_eq word (codes "mark") then record before { mark = true }
    else if bytes_eq word (codes "hold") then record before { hold = true }
    else with_stage before words

-- what was said, with the lines that have a lower number
unfoldable pub said_before : ℕ → Before → List LineView → Before
said_before number before [] = before
said_before number before (line ∷ lines) = if nat_lt line.number number then said_before number (with_words before line.words) lines else before

-- the place of the first word of the line with this number, among these lines of a plan
abbrev pub first_place : ℕ → List LineView → Place
first_place number [] = place.Flux
first_place number (first ∷ lines) = if first.number == number then place.Flux else place.Statement (said_before number nothing_said lines)
