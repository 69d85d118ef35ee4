-- The commands, and the forms of their words.
use Rattle.std.specs.Prelude.{ℕ, ◌&&◌, nat_le, not, Bool, List, [], ◌∷◌, codes, length, Option, Some, None, option_and_then, option_map, is_some, if◌then◌else◌}
use Rattle.std.specs.Str.{bytes_eq}
use Rattle.text_words.specs.Numbers.{number_of}
pub use Rattle.tuple_edge.specs.Limits.{max_threads}
use Rattle.command_line.specs.Words.{Kept, Text, given, kept_as}

-- what `run` and `trial` are told by their options
pub record Options : Type 0 where
  pub cash : Option Text
  pub script : Option Text
  -- how many threads there are
  pub threads : ℕ
  -- how many turns each of them does at most
  pub turns : ℕ
  pub journal : Option Text

-- a command, with the names of its files, its numbers and its options
pub data Request : Type 0 where
  Eval : (plan trades : Text) (cash : Option Text) → Request
  Run : (plan trades : Text) (options : Options) → Request
  Replay : (plan trades events : Text) (cash : Option Text) → Request
  Make : (start count : ℕ) → Request
  Trial : (plan : Text) (start count : ℕ) (options : Options) → Request
  Move : (plan trades moves : Text) → Request
  Trio : (plan trades events : Text) → Request

-- ---- numbers

-- the most digits of a number
abbrev pub max_digits : ℕ
max_digits = 10

-- the fewest threads of a run
abbrev pub min_threads : ℕ
min_threads = 1

-- how many threads a run has without the option
abbrev pub default_threads : ℕ
default_threads = 4

-- the most turns that each thread may be told to do
abbrev pub max_turns : ℕ
max_turns = 10000000

-- how many turns each thread does at most without the option
abbrev pub default_turns : ℕ
default_turns = 200000

-- the greatest number from which trades are made
abbrev pub max_start : ℕ
max_start = 2147483647

-- the most trades that are made
abbrev pub max_count : ℕ
max_count = 100000

-- a number, if there is one and it is in this range
abbrev pub within : ℕ → ℕ → Option ℕ → Option ℕ
within least most None = None
within least most (Some n) = if nat_le least n && nat_le n most then Some n else None

-- the number that a word says, where it has at most ten digits and is in this range
abbrev pub number_within : ℕ → ℕ → Text → Option ℕ
number_within least most word = if nat_le (length word) max_digits then within least most (number_of word) else None

-- the number of an option, or what holds without the option
abbrev pub number_or : ℕ → ℕ → ℕ → Option Text → Option ℕ
number_or default least most None = Some default
number_or default least most (Some word) = number_within least most word

-- ---- the words by their names

-- the words by what they are: up to three positional ones, and the value of each option
pub record Parts : Type 0 where
  pub first : Option Text
  pub second : Option Text
  pub third : Option Text
  pub cash : Option Text
  pub script : Option Text
  pub threads : Option Text
  pub turns : Option Text
  pub journal : Option Text

-- the parts that are kept under their names
abbrev pub parts_in : Kept → Parts
parts_in kept = record {
  first = kept_as (codes "first") kept;
  second = kept_as (codes "second") kept;
  third = kept_as (codes "third") kept;
  cash = kept_as (codes "cash") kept;
  script = kept_as (codes "script") kept;
  threads = kept_as (codes "threads") kept;
  turns = kept_as (codes "turns") kept;
  journal = kept_as (codes "journal") kept;
}

-- the first two of three words, where the third isn't there
abbrev pub two : Option Text → Option Text → Option Text → Option (Text × Text)
two (Some first) (Some second) None = Some (first, second)
two _ _ _ = None

-- the positional words, where they are exactly two
abbrev pub two_of : Parts → Option (Text × Text)
two_of parts = two parts.first parts.second parts.third

-- all three of these words, where they are there
abbrev pub three : Option Text → Option Text → Option Text → Option (Text × Text × Text)
three (Some first) (Some second) (Some third) = Some (first, second, third)
three _ _ _ = None

-- the positional words, where they are three
abbrev pub three_of : Parts → Option (Text × Text × Text)
three_of parts = three parts.first parts.second parts.third

-- whether there is no option but `--cash`
abbrev pub has_cash_alone : Parts → Bool
has_cash_alone parts = not (is_some parts.script) && not (is_some parts.threads) && not (is_some parts.turns) && not (is_some parts.journal)

-- whether there is no option
abbrev pub has_no_option : Parts → Bool
has_no_option parts = not (is_some parts.cash) && has_cash_alone parts

-- the options, where the numbers of threads and of turns are in range
abbrev pub options_with : Parts → Option ℕ → Option ℕ → Option Options
options_with parts (Some threads) (Some turns) =
    Some (record { cash = parts.cash; script = parts.script; threads = threads; turns = turns; journal = parts.journal })
options_with parts _ _ = None

-- what the options of `run` and `trial` say, where their numbers are in range
abbrev pub options_of : Parts → Option Options
options_of parts = options_with parts (number_or default_threads min_threads max_threads parts.threads) (number_or default_turns 0 max_turns parts.turns)

-- ---- the forms

-- `eval PLAN TRADES [--cash C]`
unfoldable pub eval_form : Parts → Option Request
eval_form parts = if has_cash_alone parts then option_map (λ names. Eval names.0 names.1 parts.cash) (two_of parts) else None

-- `run PLAN TRADES [--cash C] [--script S] [--threads N] [--turns T] [--journal J]`
unfoldable pub run_form : Parts → Option Request
run_form parts = option_and_then (λ names. option_map (λ options. Run names.0 names.1 options) (options_of parts)) (two_of parts)

-- `replay PLAN TRADES EVENTS [--cash C]`
unfoldable pub replay_form : Parts → Option Request
replay_form parts = if has_cash_alone parts then option_map (λ names. Replay names.0 names.1 names.2 parts.cash) (three_of parts) else None

-- two numbers, where both are there
abbrev pub made_with : Option ℕ → Option ℕ → Option (ℕ × ℕ)
made_with (Some start) (Some count) = Some (start, count)
made_with _ _ = None

-- what `START COUNT` say, where both are numbers in their ranges
abbrev pub made_of : Text → Text → Option (ℕ × ℕ)
made_of start count = made_with (number_within 0 max_start start) (number_within 0 max_count count)

-- `make START COUNT`
unfoldable pub make_form : Parts → Option Request
make_form parts =
    if has_no_option parts
    then option_and_then (λ words. option_map (λ made. Make made.0 made.1) (made_of words.0 words.1)) (two_of parts)
    else None

-- `trial PLAN START COUNT`, with the options of `run`
unfoldable pub trial_form : Parts → Option Request
trial_form parts =
    option_and_then (λ words. option_and_then (λ made. option_map (λ options. Trial words.0 made.0 made.1 options) (options_of parts)) (made_of words.1 words.2)) (three_of parts)

-- `move PLAN TRADES MOVES`
unfoldable pub move_form : Parts → Option Request
move_form parts = if has_no_option parts then option_map (λ names. Move names.0 names.1 names.2) (three_of parts) else None

-- `trio PLAN TRADES EVENTS`
unfoldable pub trio_form : Parts → Option Request
trio_form parts = if has_no_option parts then option_map (λ names. Trio names.0 names.1 names.2) (three_of parts) else None

-- what a command of this name asks for with these parts
unfoldable pub request : Text → Parts → Option Request
request command parts =
    if bytes_eq command (codes "eval") then eval_form parts
    else if bytes_eq command (codes "run") then run_form parts
    else if bytes_eq command (codes "replay") then replay_form parts
    else if bytes_eq command (codes "make") then make_form parts
    else if bytes_eq command (codes "trial") then trial_form parts
    else if bytes_eq command (codes "move") then move_form parts
    else if bytes_eq command (codes "trio") then trio_form parts
    else None

-- What words ask for, if they have a form: the first word is the command.
unfoldable pub form : List Text → Option Request
form [] = None
form (command ∷ words) = option_and_then (λ kept. request command (parts_in kept)) (given words)
