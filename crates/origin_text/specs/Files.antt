-- Where the inputs of a plan stand in their files.
use Rattle.std.specs.Prelude.{ℕ, ℤ, ◌+◌, ◌-◌, ◌==◌, ◌&&◌, Bool, List, [], ◌∷◌, ◌++◌, codes, count_by, map, take, Option, None, Some, if◌then◌else◌}
use Rattle.std.specs.Fmt.{decimal}
use Rattle.std.specs.Ordering.{int_eq}
use Rattle.tuple_edge.specs.Input.{Input}
use Rattle.tuple_edge.specs.declared.row.Row.{Row}
use Rattle.trade_sift.specs.Sifted.{line_of}
use Rattle.trade_text.specs.TradesView.{inputs_in}
use Rattle.origin_text.specs.declared.files.InputFile.{InputFile}
use Rattle.origin_text.specs.declared.files.InputFiles.{InputFiles}

-- a file of trades or of movements: its name, its text without a mark at the front, and the rows of its records, in their order
pub record FileView : Type 0 where
  pub name : List ℕ
  pub text : List ℕ
  pub rows : List Row

-- both files, and the rows of both in the order in which they come in: trades are of source 0, movements of source 1
pub record FilesView : Type 0 where
  pub trades : FileView
  pub movements : FileView
  pub inputs : List Input

-- the rows that come in
abbrev pub rows_in : FilesView → List Row
rows_in files = map (λ (x : Input). x.row) files.inputs

-- the file of a source
abbrev pub file_of : FilesView → (source : ℕ) → FileView
file_of files source = if source == 0 then files.trades else files.movements

-- whether an input is of this source and time
abbrev pub is_of : (source : ℕ) → (time : ℤ) → Input → Bool
is_of source time x = (x.source == source) && int_eq x.row.time time

-- How many of the inputs before this place are of a source and time. They come in in the order of their file, whether it is that of all inputs or that of times.
abbrev pub came_before : List Input → (place source : ℕ) → (time : ℤ) → ℕ
came_before inputs place source time = count_by (is_of source time) (take place inputs)

-- the place of the row of a time that has so many of that time before it
abbrev pub place_of : (time : ℤ) → ℕ → List Row → ℕ
place_of time n [] = 0
place_of time n (r ∷ rows) = if int_eq r.time time then (if n == 0 then 0 else place_of time (n - 1) rows + 1) else place_of time n rows + 1

-- the line in which the record of the row at a place begins: the header is record 1
abbrev pub line_at : FileView → (place : ℕ) → ℕ
line_at file place = line_of file.text (place + 2)

-- the line of an input in its file, where so many of its time came before it, and the file's name
abbrev pub line_in : FileView → (before : ℕ) → (time : ℤ) → List ℕ
line_in file before time = codes "line " ++ decimal (line_at file (place_of time before file.rows)) ++ codes " of " ++ file.name

-- the line and the file of the input at a place, if there is one
abbrev pub input_text : FilesView → (place : ℕ) → Option Input → List ℕ
input_text files place None = []
input_text files place (Some x) = line_in (file_of files x.source) (came_before files.inputs place x.source x.row.time) x.row.time

-- ---- texts alone

-- the texts of both files
pub record Texts : Type 0 where
  pub trades : List ℕ
  pub movements : List ℕ

-- those of these files
abbrev pub texts_of : FilesView → Texts
texts_of files = record { trades = files.trades.text; movements = files.movements.text }

-- the text of the file of a source
abbrev pub text_of : Texts → (source : ℕ) → List ℕ
text_of texts source = if source == 0 then texts.trades else texts.movements

-- ---- as the code holds it

-- a file that code has read
abbrev pub file_in : InputFile → FileView
file_in file = record { name = file.name.now; text = file.text.now; rows = file.rows.now }

-- both files
abbrev pub files_in : InputFiles → FilesView
files_in files = record { trades = file_in files.trades; movements = file_in files.movements; inputs = inputs_in files.inputs.now }
