-- What is said of every record of a file that is refused, and of a header.
use Rattle.std.specs.Prelude.{ℕ, ◌≡◌, ◌==◌, nat_lt, List, [], ◌∷◌, ◌++◌, length, take, Option, Some, None, Ok, Err, codes, count_by, if◌then◌else◌}
use Rattle.std.specs.Fmt.{decimal}
use Rattle.std.specs.List.{flat_map}
use Rattle.csv.specs.Reading.{strip_bom}
use Rattle.trade_text.specs.Columns.{is_column_of}
use Rattle.trade_text.specs.Kinds.{Kind, cash_kind, trades_kind}
use Rattle.trade_text.specs.Limits.{max_inputs}
use Rattle.trade_text.specs.Results.{Read}
use Rattle.trade_text.specs.declared.error.CashField.{CashField}
use Rattle.trade_text.specs.declared.error.CashField.TheVariants as cash_field
use Rattle.trade_text.specs.declared.error.Field.{Field}
use Rattle.trade_text.specs.declared.error.Field.TheVariants as field
use Rattle.trade_text.specs.declared.error.ReadError.{ReadError}
use Rattle.trade_text.specs.declared.error.ReadError.TheVariants as error
use Rattle.record_faults.specs.EachRecord.{Refusal, cash_faults, refusals, trade_faults}
use Rattle.input_faults.specs.RecordFaults.{cash_line_in, full_line, is_headless, record_front, trades_line_in}
use Rattle.input_faults.specs.Records.{names_in}
use Rattle.input_faults.specs.Shown.{shown}

-- ---- records

-- of so many refused records a line is told at most
abbrev pub max_told : ℕ
max_told = 1000

-- how many records are refused, and whether some of them are not told
abbrev pub total_text : List ℕ → ℕ → List ℕ
total_text name count = name ++ (codes ": refused records: " ++ (decimal count ++ (if nat_lt max_told count then codes "; the first 1000 stand above" else [])))

-- a line for each of the refused records, as far as they are told
abbrev pub told_lines : {F : Type 0} → (Refusal F → List ℕ) → List (Refusal F) → List ℕ
told_lines line refused = flat_map (λ r. line r ++ codes "\n") (take max_told refused)

-- the lines of the refused among these records, which begin with record 2, stand in a text, and so many are refused
pub record AreTold {F : Type 0} (line : Refusal F → List ℕ) (faults : List (Option (ReadError F))) (text : List ℕ) (count : ℕ) : Type 0 where
  pub text_is : text ≡ told_lines line (refusals 2 faults)
  pub count_is : count ≡ length (refusals 2 faults)

-- what is said of the records that are refused, if there are any: a line for each, and their number; the last line has no end
abbrev pub records_text : {F : Type 0} → List ℕ → (Refusal F → List ℕ) → List (Refusal F) → Option (List ℕ)
records_text name line [] = None
records_text name line (first ∷ others) = Some (told_lines line (first ∷ others) ++ total_text name (length (first ∷ others)))

-- ---- the header

-- of so many names of a header each is shown at most
abbrev pub max_names : ℕ
max_names = 100

-- that a name is missing in a header, or stands more than once; nothing where it stands once
abbrev pub note_of : List ℕ → List ℕ → ℕ → List ℕ
note_of front name count =
    if count == 1 then []
    else if count == 0 then front ++ (codes ": no column is named " ++ (name ++ codes "\n"))
    else front ++ (codes ": " ++ (decimal count ++ (codes " columns are named " ++ (name ++ codes "\n"))))

-- the notes on these fields of a header
abbrev pub notes : {F : Type 0} → Kind F → List ℕ → List (List ℕ) → List F → List ℕ
notes kind front names fields = flat_map (λ what. note_of front (kind.name what) (count_by (is_column_of kind what) names)) fields

-- a name behind a space
abbrev pub named : List ℕ → List ℕ
named name = codes " " ++ shown name

-- the names that stand in a header
abbrev pub names_text : List ℕ → List (List ℕ) → List ℕ
names_text front names = front ++ (codes ": here stands:" ++ flat_map named (take max_names names))

-- what is said of a header behind its line: which names are missing or stand more than once, and what stands there
abbrev pub header_notes : {F : Type 0} → Kind F → List F → List ℕ → List ℕ → List ℕ
header_notes kind fields name text =
    if is_headless text then []
    else codes "\n" ++ (notes kind (record_front name text 1) (names_in text) fields ++ names_text (record_front name text 1) (names_in text))

-- ---- trades

-- the fields of a trade, in order
abbrev pub trade_fields : List Field
trade_fields = field.Time ∷ field.Account ∷ field.Symbol ∷ field.Side ∷ field.Qty ∷ field.Price ∷ []

-- the line of a trade that is refused
abbrev pub trade_line_at : List ℕ → List ℕ → ℕ → ReadError Field → List ℕ
trade_line_at name text number error.TooMany = full_line name text number max_inputs (codes "trades")
trade_line_at name text number fault = trades_line_in name text fault

-- the same of a refusal
abbrev pub trade_line : List ℕ → List ℕ → Refusal Field → List ℕ
trade_line name text refused = trade_line_at name text refused.number refused.fault

-- what is said of a file of trades that is refused whatever its records
abbrev pub trades_head : List ℕ → List ℕ → ReadError Field → List ℕ
trades_head name text error.Header = trades_line_in name text error.Header ++ header_notes trades_kind trade_fields name text
trades_head name text fault = trades_line_in name text fault

-- what is said of what was found in a file of trades
abbrev pub trades_told : List ℕ → List ℕ → Read Field (List (Option (ReadError Field))) → Option (List ℕ)
trades_told name text (Ok faults) = records_text name (trade_line name text) (refusals 2 faults)
trades_told name text (Err fault) = Some (trades_head name text fault)

-- everything that is said of the bytes of a file of trades: nothing where they are trades
unfoldable pub all_trades_faults : List ℕ → List ℕ → Option (List ℕ)
all_trades_faults name bytes = trades_told name (strip_bom bytes) (trade_faults bytes)

-- ---- cash movements

-- the fields of a cash movement, in order
abbrev pub cash_fields : List CashField
cash_fields = cash_field.Time ∷ cash_field.Account ∷ cash_field.Amount ∷ []

-- the line of a movement that is refused, of which so many have room
abbrev pub cash_line_at : List ℕ → List ℕ → ℕ → ℕ → ReadError CashField → List ℕ
cash_line_at name text room number error.TooMany = full_line name text number room (codes "movements")
cash_line_at name text room number fault = cash_line_in name text room fault

-- the same of a refusal
abbrev pub cash_line : List ℕ → List ℕ → ℕ → Refusal CashField → List ℕ
cash_line name text room refused = cash_line_at name text room refused.number refused.fault

-- what is said of a file of movements that is refused whatever its records
abbrev pub cash_head : List ℕ → List ℕ → ℕ → ReadError CashField → List ℕ
cash_head name text room error.Header = cash_line_in name text room error.Header ++ header_notes cash_kind cash_fields name text
cash_head name text room fault = cash_line_in name text room fault

-- what is said of what was found in a file of movements
abbrev pub cash_told : List ℕ → List ℕ → ℕ → Read CashField (List (Option (ReadError CashField))) → Option (List ℕ)
cash_told name text room (Ok faults) = records_text name (cash_line name text room) (refusals 2 faults)
cash_told name text room (Err fault) = Some (cash_head name text room fault)

-- everything that is said of the bytes of a file of movements, of which so many have room: nothing where they are movements
unfoldable pub all_cash_faults : ℕ → List ℕ → List ℕ → Option (List ℕ)
all_cash_faults room name bytes = cash_told name (strip_bom bytes) room (cash_faults bytes room)
