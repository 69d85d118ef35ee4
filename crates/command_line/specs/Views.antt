-- What the code's values stand for.
use Rattle.std.specs.Prelude.{◌≤◌, Option, option_map}
use Rattle.std.specs.Borrow.{Bor}
use Rattle.command_line.specs.Forms.{Eval, Make, Move, Options, Parts, Replay, Request, Run, Trial, Trio, max_count, max_start, max_threads, max_turns, min_threads}
use Rattle.command_line.specs.Words.{Text}
use Rattle.command_line.specs.declared.command.Command.{Command}
use Rattle.command_line.specs.declared.command.Command.TheVariants as command
use Rattle.command_line.specs.declared.command.RunOptions.{RunOptions}
use Rattle.command_line.specs.declared.parts.Parts.{Parts as FoundParts}

-- the text that code refers to, if there is one
abbrev pub text_in : Option (Bor Text) → Option Text
text_in = option_map (λ text. text.now)

-- the options of `run` and `trial`
abbrev pub options_in : RunOptions → Options
options_in options = record {
  cash = text_in options.cash;
  script = text_in options.script;
  threads = options.threads;
  turns = options.turns;
  journal = text_in options.journal;
}

-- the request that a command says
abbrev pub request_of : Command → Request
request_of (command.Eval plan trades cash) = Eval plan.now trades.now (text_in cash)
request_of (command.Run plan trades options) = Run plan.now trades.now (options_in options)
request_of (command.Replay plan trades events cash) = Replay plan.now trades.now events.now (text_in cash)
request_of (command.Make start count) = Make start count
request_of (command.Trial plan start count options) = Trial plan.now start count (options_in options)
request_of (command.Move plan trades moves) = Move plan.now trades.now moves.now
request_of (command.Trio plan trades events) = Trio plan.now trades.now events.now

-- the numbers of options are within their ranges
abbrev pub AreInRange : RunOptions → Type 0
AreInRange options = (min_threads ≤ options.threads) × (options.threads ≤ max_threads) × (options.turns ≤ max_turns)

-- the numbers of a command are within their ranges
abbrev pub IsInRange : Command → Type 0
IsInRange (command.Eval plan trades cash) = Unit {0}
IsInRange (command.Run plan trades options) = AreInRange options
IsInRange (command.Replay plan trades events cash) = Unit {0}
IsInRange (command.Make start count) = (start ≤ max_start) × (count ≤ max_count)
IsInRange (command.Trial plan start count options) = (start ≤ max_start) × (count ≤ max_count) × AreInRange options
IsInRange (command.Move plan trades moves) = Unit {0}
IsInRange (command.Trio plan trades events) = Unit {0}

-- the parts that the code found
abbrev pub parts_of : FoundParts → Parts
parts_of parts = record {
  first = text_in parts.first;
  second = text_in parts.second;
  third = text_in parts.third;
  cash = text_in parts.cash;
  script = text_in parts.script;
  threads = text_in parts.threads;
  turns = text_in parts.turns;
  journal = text_in parts.journal;
}
