-- A file of trades parted in two: the records that are accepted, and those that are refused, each with its line and why.
use Rattle.std.specs.Prelude.{ℕ, ◌+◌, List, [], ◌∷◌, ◌++◌, length, Option, None, Some, Ok, codes}
use Rattle.std.specs.Fmt.{decimal}
use Rattle.csv.specs.Reading.{strip_bom}
use Rattle.trade_text.specs.Files.{File, file_of}
use Rattle.trade_text.specs.Kinds.{trade_name}
use Rattle.trade_text.specs.Limits.{max_inputs}
use Rattle.trade_text.specs.Results.{Read, ◌>>=◌}
use Rattle.trade_text.specs.declared.error.Field.{Field}
use Rattle.trade_text.specs.declared.error.ReadError.{ReadError}
use Rattle.trade_text.specs.declared.error.ReadError.TheVariants as error
use Rattle.record_faults.specs.EachRecord.{accepted, trade_faults}
use Rattle.record_faults.specs.Written.{file_text, rows_text}
use Rattle.input_faults.specs.RecordFaults.{trade_form, trade_range}
use Rattle.input_faults.specs.Records.{before, line_behind, record_of}

-- ---- the records that are refused

-- those of the records that are refused, by why each is, if it is
abbrev pub refused : {F : Type 0} → List (Option (ReadError F)) → List (List (List ℕ)) → List (List (List ℕ))
refused [] records = []
refused (fault ∷ faults) [] = []
refused (None ∷ faults) (fields ∷ records) = refused faults records
refused (Some fault ∷ faults) (fields ∷ records) = fields ∷ refused faults records

-- why a record is refused, in words, under a header with so many names
unfoldable pub reason : ℕ → List (List ℕ) → ReadError Field → List ℕ
reason names fields (error.Row number) = decimal (length fields) ++ (codes " fields, the header has " ++ decimal names)
reason names fields (error.Field number what) = trade_name what ++ (codes ": here may stand: " ++ trade_form what)
reason names fields (error.Range number what) = trade_name what ++ (codes ": here may stand: " ++ trade_range what)
reason names fields error.TooMany = codes "at most " ++ (decimal max_inputs ++ codes " trades may be")
reason names fields other = []

-- a record that is refused, behind its line and why
abbrev pub reject_row : ℕ → ℕ → List (List ℕ) → ReadError Field → List (List ℕ)
reject_row line names fields fault = decimal line ∷ reason names fields fault ∷ fields

-- the line in which the record of a number begins
abbrev pub line_of : List ℕ → ℕ → ℕ
line_of text number = line_behind (before (record_of number text) text)

-- the rows of the records that are refused, of which the first has this number
abbrev pub reject_rows : List ℕ → ℕ → ℕ → List (Option (ReadError Field)) → List (List (List ℕ)) → List (List (List ℕ))
reject_rows text names number [] records = []
reject_rows text names number (fault ∷ faults) [] = []
reject_rows text names number (None ∷ faults) (fields ∷ records) = reject_rows text names (number + 1) faults records
reject_rows text names number (Some fault ∷ faults) (fields ∷ records) =
    reject_row (line_of text number) names fields fault ∷ reject_rows text names (number + 1) faults records

-- the header of the refused records
abbrev pub rejects_header : List (List ℕ) → List (List ℕ)
rejects_header header = codes "line" ∷ codes "reason" ∷ header

-- ---- the two texts

-- the texts of the records that are accepted and of those that are refused, each under its header
pub record Parts : Type 0 where
  pub kept : List ℕ
  pub rejects : List ℕ

-- the parts of a file with these faults
abbrev pub parts_of : List ℕ → File → List (Option (ReadError Field)) → Parts
parts_of text file faults = record {
  kept = file_text (file.header ∷ accepted faults file.records);
  rejects = rows_text (rejects_header file.header ∷ reject_rows text (length file.header) 2 faults file.records);
}

-- a file of trades parted; or why it is refused, whatever its records
unfoldable pub parted : List ℕ → Read Field Parts
parted bytes = do
  faults ← trade_faults bytes
  file ← file_of bytes
  Ok (parts_of (strip_bom bytes) file faults)
