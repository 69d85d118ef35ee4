-- The lines that `flux_look` says: those of `flux`, with its own name in front.
use Rattle.std.specs.Prelude.{ℕ, List, codes}
use Rattle.pair_machine.specs.Numbers.{Partition}
use Rattle.flux_top.specs.Lines.{line_by, lost_line_by}
use Rattle.flux_top.specs.Programs.{Lines}

-- the program's name
abbrev pub name : List ℕ
name = codes "flux_look"

-- a line of `flux` under this name
abbrev pub own_line : List ℕ → List ℕ
own_line = line_by name

-- what is said of a lost pair
abbrev pub lost_line : Partition → List ℕ
lost_line = lost_line_by name

-- what is said of words that have no form: the forms that there are
abbrev pub usage_line : List ℕ
usage_line = codes "flux_look: usage: check PLAN [TRADES] [--cash C] [--script S] [--all] [--json] | story PLAN TRADES EVENTS [--cash C] [--script S] [--json] | timeline PLAN TRADES EVENTS [--cash C] [--svg | --json] [--only] | rehearse PLAN TRADES SCRIPT [--cash C] [--threads N] [--turns T] [--svg FILE] | why PLAN TRADES N [--cash C] [--all] [--check] | trace PLAN TRADES LINE [--cash C] | sift TRADES --rejects R | sql PLAN\n"

-- what is said where a text, or a file, could not be written
abbrev pub cannot_write_line : List ℕ
cannot_write_line = codes "flux_look: cannot write\n"

-- what is said where memory ran out
abbrev pub memory_line : List ℕ
memory_line = codes "flux_look: out of memory\n"

-- the lines that stand for a status
abbrev pub lines : Lines
lines = record { usage = usage_line; unwritten = cannot_write_line; short = memory_line }
