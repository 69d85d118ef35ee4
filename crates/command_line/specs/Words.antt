-- What the words behind a command give: its positional words, and the values of its options.
use Rattle.std.specs.Prelude.{ℕ, ◌+◌, ◌==◌, ◌&&◌, ◌||◌, not, Bool, true, false, List, [], ◌∷◌, ◌++◌, codes, find, fold, slice_get, Option, Some, None, option_and_then, option_map, if◌then◌else◌}
use Rattle.std.specs.List.{after_first, before_first, list_any}
use Rattle.std.specs.Option.{option_map_or}
use Rattle.std.specs.Str.{bytes_eq}

-- a text, as the list of its bytes
abbrev pub Text : Type 0
Text = List ℕ

-- ---- one word

-- a word that may be a positional word or a value: it is not empty, and doesn't begin with `-` (45)
abbrev pub is_plain : Text → Bool
is_plain [] = false
is_plain (b ∷ bytes) = not (b == 45)

-- what stands behind a first `-` (45)
abbrev pub behind_dash : Text → Option Text
behind_dash [] = None
behind_dash (b ∷ bytes) = if b == 45 then Some bytes else None

-- what stands behind a first `--`
abbrev pub behind_dashes : Text → Option Text
behind_dashes word = option_and_then behind_dash (behind_dash word)

-- what stands behind the first `=` (61), if there is one
abbrev pub value_in : Text → Option Text
value_in text = if list_any (λ b. b == 61) text then Some (after_first (λ b. b == 61) text) else None

-- `--NAME` or `--NAME=VALUE`
abbrev pub option_of : Text → Option (Text × Option Text)
option_of word = option_map (λ text. (before_first (λ b. b == 61) text, value_in text)) (behind_dashes word)

-- the names of the options
abbrev pub options : List Text
options = codes "cash" ∷ codes "script" ∷ codes "threads" ∷ codes "turns" ∷ codes "journal" ∷ []

-- whether an option has this name
abbrev pub is_option : Text → Bool
is_option name = list_any (λ option. bytes_eq option name) options

-- ---- words read from left to right

-- the names under which positional words are kept, in order; no command takes more
abbrev pub places : List Text
places = codes "first" ∷ codes "second" ∷ codes "third" ∷ []

-- words that are kept, each under a name
abbrev pub Kept : Type 0
Kept = List (Text × Text)

-- whether a word is kept under this name
abbrev pub holds : Text → Kept → Bool
holds name kept = list_any (λ pair. bytes_eq pair.0 name) kept

-- a word is kept under a name that has none yet
abbrev pub keep : Text → Text → Kept → Option Kept
keep name word kept = if holds name kept then None else Some (kept ++ (name, word) ∷ [])

-- the word under a name
abbrev pub kept_as : Text → Kept → Option Text
kept_as name kept = option_map (λ pair. pair.1) (find (λ pair. bytes_eq pair.0 name) kept)

-- what the words so far gave: how many were positional, and the option that waits for its value
pub record Reading : Type 0 where
  pub kept : Kept
  pub place : ℕ
  pub waiting : Option Text

-- the reading before the first word
abbrev pub start : Reading
start = record { kept = []; place = 0; waiting = None }

-- the reading goes on with what is kept, where it could be kept
abbrev pub onward : ℕ → Option Kept → Option Reading
onward place kept = option_map (λ k. record { kept = k; place = place; waiting = None }) kept

-- the value of the option that waits for it
abbrev pub with_value : Text → Text → Reading → Option Reading
with_value name word r = if is_plain word then onward r.place (keep name word r.kept) else None

-- one more positional word
abbrev pub with_positional : Text → Reading → Option Reading
with_positional word r = option_and_then (λ name. onward (r.place + 1) (keep name word r.kept)) (slice_get places r.place)

-- an option, with its value in its own word or in the next one
abbrev pub with_option : Text → Option Text → Reading → Option Reading
with_option name None r = if is_option name then Some (record r { waiting = Some name }) else None
with_option name (Some value) r = if is_option name && is_plain value then onward r.place (keep name value r.kept) else None

-- one more word: the value of the option that waits, else a positional word if it is plain, and else an option
abbrev pub with_word : Text → Option Text → Reading → Option Reading
with_word word (Some name) r = with_value name word r
with_word word None r = if is_plain word then with_positional word r else option_and_then (λ option. with_option option.0 option.1 r) (option_of word)

-- the reading after one more word
abbrev pub next : Option Reading → Text → Option Reading
next r word = option_and_then (λ (so_far : Reading). with_word word so_far.waiting so_far) r

-- the reading after these words
abbrev pub read : Option Reading → List Text → Option Reading
read r words = fold next r words

-- what is kept at the end, where no option waits for its value
abbrev pub kept_at_end : Option Text → Kept → Option Kept
kept_at_end None kept = Some kept
kept_at_end (Some name) kept = None

-- what a reading has kept at its end, if all its words could be read
abbrev pub finish : Option Reading → Option Kept
finish r = option_and_then (λ (end : Reading). kept_at_end end.waiting end.kept) r

-- What words give, if they can be read: each name is given at most once, and each word and value is plain.
abbrev pub given : List Text → Option Kept
given words = finish (read (Some start) words)

-- ---- a word by itself

-- whether this may stand behind `--`: it isn't empty, and has a plain value, if it has one
abbrev pub may_stand_behind : Text → Bool
may_stand_behind [] = false
may_stand_behind (b ∷ text) = option_map_or is_plain (value_in (b ∷ text)) true

-- a word that can stand somewhere: a plain one, or `--` with more behind it and a plain value, if it has one
abbrev pub may_stand : Text → Bool
may_stand word = is_plain word || option_map_or may_stand_behind (behind_dashes word) false
