-- Trades, and the file from which they were read.
use Rattle.std.specs.Prelude.{ℕ, List}
use Rattle.csv.specs.Reading.{strip_bom}
use Rattle.trade_text.specs.TradesView.{TradesView}
use Rattle.input_faults.specs.Records.{before, line_behind, record_of}

-- trades, with the name and the bytes of their file
pub record GivenView : Type 0 where
  pub name : List ℕ
  pub bytes : List ℕ
  pub trades : TradesView

-- the trades of a file of this name with these bytes
abbrev pub given : List ℕ → List ℕ → TradesView → GivenView
given name bytes trades = record { name = name; bytes = bytes; trades = trades }

-- the line of a text in which the record of this number begins
abbrev pub line_in : List ℕ → ℕ → ℕ
line_in text number = line_behind (before (record_of number text) text)

-- the line of the file in which the record of this number begins; the header is record 1, and the first trade record 2
abbrev pub line_of : GivenView → ℕ → ℕ
line_of g number = line_in (strip_bom g.bytes) number
