-- The lines that are said on the error stream.
use Rattle.std.specs.Prelude.{ℕ, List, ◌++◌, codes}
use Rattle.std.specs.Fmt.{decimal}
use Rattle.pair_machine.specs.Numbers.{Partition}
use Rattle.flux_top.specs.Programs.{Lines}

-- ---- of any program

-- a line with a program's name before it
abbrev pub line_by : List ℕ → List ℕ → List ℕ
line_by name line = name ++ (codes ": " ++ line)

-- what a program of this name says of a lost pair
abbrev pub lost_line_by : List ℕ → Partition → List ℕ
lost_line_by name pair = name ++ (codes ": pair " ++ (decimal pair.stage ++ (codes "." ++ (decimal pair.part ++ codes " is lost\n"))))

-- ---- of `flux`

-- the program's name
abbrev pub name : List ℕ
name = codes "flux"

-- a line under this name
abbrev pub own_line : List ℕ → List ℕ
own_line = line_by name

-- what is said of a lost pair
abbrev pub lost_line : Partition → List ℕ
lost_line = lost_line_by name

-- what is said of words that have no form: the forms that there are
abbrev pub usage_line : List ℕ
usage_line = codes "flux: usage: eval PLAN TRADES [--cash C] | run PLAN TRADES [options] | replay PLAN TRADES EVENTS [--cash C] | make START COUNT | trial PLAN START COUNT [options] | trio PLAN TRADES EVENTS | move PLAN TRADES MOVES\n"

-- what is said where a text, or a journal, could not be written
abbrev pub cannot_write_line : List ℕ
cannot_write_line = codes "flux: cannot write\n"

-- what is said where memory ran out
abbrev pub memory_line : List ℕ
memory_line = codes "flux: out of memory\n"

-- the lines that stand for a status
abbrev pub lines : Lines
lines = record { usage = usage_line; unwritten = cannot_write_line; short = memory_line }
