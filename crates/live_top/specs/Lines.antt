-- The lines that `flux_live` says: those of `flux`, with its own name in front.
use Rattle.std.specs.Prelude.{ℕ, List, codes}
use Rattle.pair_machine.specs.Numbers.{Partition}
use Rattle.flux_top.specs.Lines.{line_by, lost_line_by}
use Rattle.flux_top.specs.Programs.{Lines}

-- the program's name
abbrev pub name : List ℕ
name = codes "flux_live"

-- a line of `flux` under this name
abbrev pub own_line : List ℕ → List ℕ
own_line = line_by name

-- what is said of a lost pair
abbrev pub lost_line : Partition → List ℕ
lost_line = lost_line_by name

-- what is said of words that have no form: the form that there is
abbrev pub usage_line : List ℕ
usage_line = codes "flux_live: usage: PLAN TRADES [SCRIPT]\n"

-- what is said where a text could not be written
abbrev pub cannot_write_line : List ℕ
cannot_write_line = codes "flux_live: cannot write\n"

-- what is said where memory ran out
abbrev pub memory_line : List ℕ
memory_line = codes "flux_live: out of memory\n"

-- the lines that stand for a status
abbrev pub lines : Lines
lines = record { usage = usage_line; unwritten = cannot_write_line; short = memory_line }
