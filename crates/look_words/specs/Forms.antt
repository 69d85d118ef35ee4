-- The commands of `flux_look`, and the forms of their words.
use Rattle.std.specs.Prelude.{ℕ, ◌≤◌, ◌&&◌, Bool, List, [], ◌∷◌, codes, Option, Some, None, option_and_then, option_map, is_some, if◌then◌else◌}
use Rattle.std.specs.Str.{bytes_eq}
use Rattle.command_line.specs.Forms.{default_threads, default_turns, max_threads, max_turns, min_threads, number_or, number_within, three}
use Rattle.command_line.specs.Words.{Text}
use Rattle.command_line.specs.Views.{text_in}
use Rattle.look_words.specs.Parts.{Parts}
use Rattle.look_words.specs.Reading.{given}
use Rattle.look_words.specs.declared.command.LookCommand.{LookCommand}
use Rattle.look_words.specs.declared.command.LookCommand.TheVariants as command
use Rattle.look_words.specs.declared.numbers.RunNumbers.{RunNumbers}

-- a command, with the names of its files, its numbers, and which of its options are given
pub data Request : Type 0 where
  Check : (plan : Text) (trades cash script : Option Text) (all json : Bool) → Request
  Story : (plan trades events : Text) (cash script : Option Text) (json : Bool) → Request
  Timeline : (plan trades events : Text) (cash : Option Text) (svg json only : Bool) → Request
  Rehearse : (plan trades script : Text) (cash : Option Text) (threads turns : ℕ) (picture : Option Text) → Request
  Why : (plan trades : Text) (number : ℕ) (cash : Option Text) (all check : Bool) → Request
  Trace : (plan trades : Text) (line : ℕ) (cash : Option Text) → Request
  Sift : (trades rejects : Text) → Request
  Sql : (plan : Text) → Request

-- ---- numbers

-- two numbers, where both are there
abbrev pub both : Option ℕ → Option ℕ → Option (ℕ × ℕ)
both (Some a) (Some b) = Some (a, b)
both _ _ = None

-- how many threads a rehearsal has and how many turns each of them does at most, as `flux run` says it
abbrev pub numbers_of : Parts → Option (ℕ × ℕ)
numbers_of parts = both (number_or default_threads min_threads max_threads parts.threads) (number_or default_turns 0 max_turns parts.turns)

-- ---- the forms; Options says which options a command has

-- the first of two words, where the second isn't there
abbrev pub one : Option Text → Option Text → Option Text
one (Some first) None = Some first
one _ _ = None

-- `check PLAN [TRADES] [--cash C] [--script S] [--all] [--json]`
unfoldable pub check_form : Parts → Option Request
check_form parts = if is_some parts.third then None else option_map (λ plan. Check plan parts.second parts.cash parts.script parts.all parts.json) parts.first

-- `story PLAN TRADES EVENTS [--cash C] [--script S] [--json]`
unfoldable pub story_form : Parts → Option Request
story_form parts = option_map (λ names. Story names.0 names.1 names.2 parts.cash parts.script parts.json) (three parts.first parts.second parts.third)

-- `timeline PLAN TRADES EVENTS [--cash C] [--svg | --json] [--only]`
unfoldable pub timeline_form : Parts → Option Request
timeline_form parts =
    if parts.svg && parts.json then None
    else option_map (λ names. Timeline names.0 names.1 names.2 parts.cash parts.svg parts.json parts.only) (three parts.first parts.second parts.third)

-- `rehearse PLAN TRADES SCRIPT [--cash C] [--threads N] [--turns T] [--svg FILE]`
unfoldable pub rehearse_form : Parts → Option Request
rehearse_form parts =
    option_and_then (λ names. option_map (λ numbers. Rehearse names.0 names.1 names.2 parts.cash numbers.0 numbers.1 parts.picture) (numbers_of parts))
    (three parts.first parts.second parts.third)

-- the greatest number by which a row, or a line, may be asked about
abbrev pub max_row_number : ℕ
max_row_number = 4294967295

-- `why PLAN TRADES N [--cash C] [--all] [--check]`
unfoldable pub why_form : Parts → Option Request
why_form parts =
    option_and_then (λ names. option_map (λ number. Why names.0 names.1 number parts.cash parts.all parts.check) (number_within 0 max_row_number names.2)) (three parts.first parts.second parts.third)

-- `trace PLAN TRADES LINE [--cash C]`
unfoldable pub trace_form : Parts → Option Request
trace_form parts =
    option_and_then (λ names. option_map (λ line. Trace names.0 names.1 line parts.cash) (number_within 0 max_row_number names.2)) (three parts.first parts.second parts.third)

-- `sift TRADES --rejects R`
unfoldable pub sift_form : Parts → Option Request
sift_form parts = option_and_then (λ trades. option_map (λ rejects. Sift trades rejects) parts.rejects) (one parts.first parts.second)

-- `sql PLAN`
unfoldable pub sql_form : Parts → Option Request
sql_form parts = option_map (λ plan. Sql plan) (one parts.first parts.second)

-- what a command of this name asks for with these parts
unfoldable pub request : Text → Parts → Option Request
request command parts =
    if bytes_eq command (codes "check") then check_form parts
    else if bytes_eq command (codes "story") then story_form parts
    else if bytes_eq command (codes "timeline") then timeline_form parts
    else if bytes_eq command (codes "rehearse") then rehearse_form parts
    else if bytes_eq command (codes "why") then why_form parts
    else if bytes_eq command (codes "trace") then trace_form parts
    else if bytes_eq command (codes "sift") then sift_form parts
    else if bytes_eq command (codes "sql") then sql_form parts
    else None

-- What words ask for, if they have a form: the first word is the command, and an option stands anywhere behind it.
unfoldable pub form : List Text → Option Request
form [] = None
form (command ∷ words) = option_and_then (request command) (given command words)

-- ---- as the code holds it

-- the numbers that code has read
abbrev pub numbers_in : RunNumbers → ℕ × ℕ
numbers_in numbers = (numbers.threads, numbers.turns)

-- the request that a command says
abbrev pub request_of : LookCommand → Request
request_of (command.Check plan trades cash script all json) = Check plan.now (text_in trades) (text_in cash) (text_in script) all json
request_of (command.Story plan trades events cash script json) = Story plan.now trades.now events.now (text_in cash) (text_in script) json
request_of (command.Timeline plan trades events cash svg json only) = Timeline plan.now trades.now events.now (text_in cash) svg json only
request_of (command.Rehearse plan trades script cash threads turns picture) =
    Rehearse plan.now trades.now script.now (text_in cash) threads turns (text_in picture)
request_of (command.Why plan trades number cash all check) = Why plan.now trades.now number (text_in cash) all check
request_of (command.Trace plan trades line cash) = Trace plan.now trades.now line (text_in cash)
request_of (command.Sift trades rejects) = Sift trades.now rejects.now
request_of (command.Sql plan) = Sql plan.now

-- the numbers of a rehearsal are within their ranges
abbrev pub IsInRange : LookCommand → Type 0
IsInRange (command.Check plan trades cash script all json) = Unit {0}
IsInRange (command.Story plan trades events cash script json) = Unit {0}
IsInRange (command.Timeline plan trades events cash svg json only) = Unit {0}
IsInRange (command.Rehearse plan trades script cash threads turns picture) = (1 ≤ threads) × (threads ≤ max_threads) × (turns ≤ max_turns)
IsInRange (command.Why plan trades number cash all check) = Unit {0}
IsInRange (command.Trace plan trades line cash) = Unit {0}
IsInRange (command.Sift trades rejects) = Unit {0}
IsInRange (command.Sql plan) = Unit {0}
