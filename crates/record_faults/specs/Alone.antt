-- A record that is read alone under its header, and what that says of it among the others: its number there is its own, and its symbol may find no room.
use Rattle.std.specs.Prelude.{ℕ, ◌≡◌, Bool, true, false, not, ◌&&◌, List, [], ◌∷◌, ◌+◌, length, Option, None, Some, Ok, Err, if◌then◌else◌}
use Rattle.std.specs.Option.{is_none, is_some}
use Rattle.csv.specs.Writing.{read_back}
use Rattle.tuple_edge.specs.declared.row.Row.{Row}
use Rattle.trade_text.specs.Columns.{cash_columns, trade_columns}
use Rattle.trade_text.specs.Files.{RowsRead, row_onto}
use Rattle.trade_text.specs.Results.{Read}
use Rattle.trade_text.specs.Symbols.{numbered, texts}
use Rattle.trade_text.specs.declared.error.Field.{Field}
use Rattle.trade_text.specs.declared.error.Field.TheVariants as field
use Rattle.trade_text.specs.declared.error.ReadError.{ReadError}
use Rattle.trade_text.specs.declared.error.ReadError.TheVariants as error
use Rattle.trade_text.specs.declared.trade_file.TradeForm.{TradeForm}
use Rattle.record_faults.specs.EachRecord.{fault_in, unless_refused}
use Rattle.record_faults.specs.Written.{rows_text}
use Rattle.record_faults.specs.declared.cash.CashJudge.{CashJudge}
use Rattle.record_faults.specs.declared.trades.TradeJudge.{TradeJudge}

-- ---- records

-- some fields are a record: there is at least one, as in each record that csv reads
abbrev pub IsRecord : List (List ℕ) → Type 0
IsRecord fields = read_back fields ≡ fields

-- records behind an empty line, as csv writes them; the empty line keeps a mark in the header from being one of the file
abbrev pub lone_text : List (List (List ℕ)) → List ℕ
lone_text records = 10 ∷ rows_text records

-- the same refusal, of the record of this number
abbrev pub at_record : {F : Type 0} → ℕ → ReadError F → ReadError F
at_record number error.Header = error.Header
at_record number (error.Row other) = error.Row number
at_record number (error.Field other what) = error.Field number what
at_record number (error.Range other what) = error.Range number what
at_record number error.TooMany = error.TooMany
at_record number (error.TooLong bytes) = error.TooLong bytes
at_record number error.OutOfMemory = error.OutOfMemory

-- what is kept behind a record: what it gives, unless it is refused
abbrev pub kept_behind : {F K : Type 0} → K → Read F (Row × K) → K
kept_behind kept (Ok next) = next.1
kept_behind kept (Err fault) = kept

-- a record is judged so as it reads, and what is kept then stands for this
abbrev pub IsJudged : {F K : Type 0} → (K → Type 0) → Option (ReadError F) → K → Read F (Row × K) → Type 0
IsJudged stands fault kept read = (fault ≡ fault_in read) × stands (kept_behind kept read)

-- a record of this number is judged so behind the rows that were accepted, so many; then this many are, and what is kept stands for this
pub record IsNext {F K : Type 0} (row_in : ℕ → K → List (List ℕ) → Read F (Row × K)) (room : ℕ) (stands : K → Type 0) (number count : ℕ) (so_far : RowsRead K) (fields : List (List ℕ)) (fault : Option (ReadError F)) : Type 0 where
  pub fault_is : fault ≡ fault_in (row_onto row_in room number so_far fields)
  pub stands_for : stands (unless_refused so_far (row_onto row_in room number so_far fields)).kept
  pub counts : length (unless_refused so_far (row_onto row_in room number so_far fields)).rows ≡ (if is_none fault then count + 1 else count)

-- ---- symbols

-- whether a field is read behind the symbol
abbrev pub comes_behind : Field → Bool
comes_behind field.Time = false
comes_behind field.Account = false
comes_behind field.Symbol = false
comes_behind field.Side = true
comes_behind field.Qty = true
comes_behind field.Price = true

-- whether a refusal is of a field that is read behind the symbol
abbrev pub is_behind_symbol : ReadError Field → Bool
is_behind_symbol (error.Field number what) = comes_behind what
is_behind_symbol (error.Range number what) = comes_behind what
is_behind_symbol other = false

-- whether there is room for a symbol
abbrev pub has_room : List (List ℕ) → List ℕ → Bool
has_room known name = is_some (numbered known name)

-- why a record of this number and symbol is refused, by why it is alone
abbrev pub fault_among : ℕ → List (List ℕ) → List ℕ → Option (ReadError Field) → Option (ReadError Field)
fault_among number known name None = if has_room known name then None else Some (error.Range number field.Symbol)
fault_among number known name (Some fault) =
    if is_behind_symbol fault && not (has_room known name) then Some (error.Range number field.Symbol) else Some (at_record number fault)

-- the symbols that are known when another one comes
abbrev pub known_with : List (List ℕ) → Option (ℕ × List (List ℕ)) → List (List ℕ)
known_with known None = known
known_with known (Some next) = next.1

-- the symbols that are known behind the record
abbrev pub known_among : List (List ℕ) → List ℕ → Option (ReadError Field) → List (List ℕ)
known_among known name None = known_with known (numbered known name)
known_among known name (Some fault) = known

-- ---- as the code holds it

-- what a header is read as
abbrev pub ColumnsOf : {F C : Type 0} → (List (List ℕ) → Read F C) → Type 0
ColumnsOf {F} {C} columns = C

-- where the fields of cash movements stand
abbrev pub CashColumns : Type 0
CashColumns = ColumnsOf cash_columns

-- what a judge of trades has at hand stands for the columns of a header and the symbols that are known
pub record StandsFor (judge : TradeJudge) (form : TradeForm) : Type 0 where
  pub header : List (List ℕ)
  pub is_record : IsRecord header
  pub columns : trade_columns header ≡ Ok form.columns
  pub front : judge.front.items ≡ lone_text (header ∷ [])
  pub place : judge.place ≡ form.columns.symbol
  pub symbols : form.symbols ≡ texts judge.symbols.names.keys

-- what a judge of movements has at hand stands for the columns of a header
pub record StandsForCash (judge : CashJudge) (columns : CashColumns) : Type 0 where
  pub header : List (List ℕ)
  pub is_record : IsRecord header
  pub columns_are : cash_columns header ≡ Ok columns
  pub front : judge.front.items ≡ lone_text (header ∷ [])
