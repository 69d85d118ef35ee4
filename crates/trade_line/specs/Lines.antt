-- Which trade stands in a line of its file.
use Rattle.std.specs.Prelude.{ℕ, ◌+◌, ◌-◌, ◌==◌, ◌&&◌, List, [], ◌∷◌, ◌++◌, Option, None, Some, Result, Ok, Err, codes, nat_lt, if◌then◌else◌}
use Rattle.std.specs.Fmt.{decimal}
use Rattle.csv.specs.declared.parser.State.{State}
use Rattle.csv.specs.declared.parser.State.TheVariants.{StartRecord}
use Rattle.text_words.specs.Lines.{ends_line}
use Rattle.trade_line.specs.Scans.{begins, behind, counted, lines_in}
use Rattle.trade_line.specs.declared.lines.LineFault.{LineFault}
use Rattle.trade_line.specs.declared.lines.LineFault.TheVariants as fault

-- the number of the record that begins in a line, in a text that goes on so, behind so many records and in this line
abbrev pub record_from : (wanted : ℕ) → State → (records line : ℕ) → List ℕ → Option ℕ
record_from wanted s records line [] = None
record_from wanted s records line (byte ∷ rest) =
    if begins s byte && (line == wanted) then Some (records + 1)
    else record_from wanted (behind s byte) (counted (begins s byte) records) (counted (ends_line byte rest) line) rest

-- the number of the record that begins in a line of a text, if one does: the header is record 1
abbrev pub record_in : List ℕ → (line : ℕ) → Option ℕ
record_in text line = record_from line StartRecord 0 1 text

-- why no trade stands in a line where no record begins
abbrev pub no_record : List ℕ → (line : ℕ) → LineFault
no_record text line = if nat_lt (lines_in text) line then fault.Past line (lines_in text) else fault.NoRecord line

-- The place of the trade whose record has this number, if it has one: trades stand behind the header.
abbrev pub trade_of : List ℕ → (line : ℕ) → Option ℕ → Result ℕ LineFault
trade_of text line None = Err (no_record text line)
trade_of text line (Some number) = if number == 1 then Err (fault.Header line) else Ok (number - 2)

-- the place of the trade that stands in a line of a text, or why there is none
abbrev pub trade_in : List ℕ → (line : ℕ) → Result ℕ LineFault
trade_in text line = trade_of text line (record_in text line)

-- what is said of a line in which no trade stands
abbrev pub line_fault : LineFault → List ℕ
line_fault (fault.Past line lines) = codes "line " ++ decimal line ++ (codes ": the file has " ++ decimal lines ++ codes " lines")
line_fault (fault.Header line) = codes "line " ++ decimal line ++ codes ": the header"
line_fault (fault.NoRecord line) = codes "line " ++ decimal line ++ codes ": no record begins here"
