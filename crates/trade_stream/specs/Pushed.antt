-- Trades that are parsed from bytes that are pushed: what is still to be told where further bytes come.
use Rattle.std.specs.Prelude.{ℕ, ◌≡◌, ◌≤◌, ◌⊎◌, ◌+◌, ◌==◌, ◌&&◌, get_or, Bool, true, false, List, [], ◌∷◌, ◌++◌, length, take, Option, Some, None, Ok, Err, Result, if◌then◌else◌}
use Rattle.csv.specs.Machine.{Read as Found, ends_at_end, is_end, next_record, step}
use Rattle.csv.specs.Reading.{default_config, strip_bom}
use Rattle.csv.specs.Records.{fields_of, partial_of}
use Rattle.csv.specs.declared.parser.Action.{Action}
use Rattle.csv.specs.declared.parser.State.{State}
use Rattle.csv.specs.declared.parser.State.TheVariants as state
use Rattle.tuple_edge.specs.declared.row.Row.{Row}
use Rattle.trade_text.specs.Columns.{trade_columns}
use Rattle.trade_text.specs.Limits.{max_input_bytes, max_symbols}
use Rattle.trade_text.specs.Records.{records_left, starts_with_mark}
use Rattle.trade_text.specs.RecordStates.{state_of}
use Rattle.trade_text.specs.Streams.{IsFaultOf, Told, behind_row, no_more, told_from, told_next, told_of, told_of_text, told_under}
use Rattle.trade_text.specs.Trades.{trade_in}
use Rattle.trade_text.specs.declared.error.ReadError.TheVariants as error
use Rattle.trade_text.specs.declared.error.StreamError.{StreamError}
use Rattle.trade_text.specs.declared.error.StreamError.TheVariants as stream
use Rattle.trade_stream.specs.declared.parsing.Parsing.{Parsing}
use Rattle.trade_text.specs.declared.record_state.RecordState.TheVariants as stands
use Rattle.trade_stream.specs.declared.stage.Stage.{Stage}
use Rattle.trade_stream.specs.declared.stage.Stage.TheVariants as stage
use Rattle.trade_text.specs.declared.trade_file.TradeForm.{TradeForm}

-- ---- what is still to be told

-- what is told where this is the next record, which is the header, or where there is none
abbrev pub told_by_header : Option Found → Told
told_by_header None = no_more (Some error.Header) []
told_by_header (Some next) = told_under (records_left next.1 next.2) (trade_columns next.0)

-- what is told where this is the next record, which is a trade, or where there is none
abbrev pub told_by_trade : ℕ → TradeForm → Option Found → Told
told_by_trade number form None = no_more None form.symbols
told_by_trade number form (Some next) =
    told_next (λ form. told_from (number + 1) form (records_left next.1 next.2)) form.symbols (trade_in number form next.0)

-- the same of either
abbrev pub told_found : Stage → ℕ → TradeForm → Option Found → Told
told_found stage.Start number form next = told_by_header next
told_found stage.Marked number form next = told_by_header next
told_found stage.Header number form next = told_by_header next
told_found stage.Trades number form next = told_by_trade number form next

-- the bytes of a byte order mark
abbrev pub mark_bytes : List ℕ
mark_bytes = 0xEF ∷ 0xBB ∷ 0xBF ∷ []

-- the front of a mark that came, and these bytes behind it
abbrev pub front_text : Parsing → List ℕ → List ℕ
front_text p rest = take p.bytes mark_bytes ++ rest

-- the next record, where these bytes come behind those of it that came, and then the end
abbrev pub next_behind : Parsing → List ℕ → Option Found
next_behind p rest = next_record default_config (state_of p.record.state) (fields_of p.fields) p.record.field.items rest

-- what is told in a stage where these bytes come, and then the end
abbrev pub told_in : Stage → Parsing → List ℕ → Told
told_in stage.Start p rest = told_of (front_text p rest)
told_in stage.Marked p rest = told_of_text (front_text p rest)
told_in stage.Header p rest = told_by_header (next_behind p rest)
told_in stage.Trades p rest = told_by_trade p.number p.form (next_behind p rest)

-- what is still to be told where these bytes come, and then the end
abbrev pub told_behind : Parsing → List ℕ → Told
told_behind p rest = told_in p.stage p rest

-- A call took bytes: what was to be told before is the row that it gave, if it gave one, and then what is to be told now; or its fault.
abbrev pub TellsOn : Result (Option Row) StreamError → Told → Told → Type 0
TellsOn (Ok None) before now = before ≡ now
TellsOn (Ok (Some row)) before now = before ≡ behind_row row now
TellsOn (Err e) before now = IsFaultOf e before

-- The same of the end, behind which nothing is to be told.
abbrev pub TellsLast : Result (Option Row) StreamError → Told → List (List ℕ) → Type 0
TellsLast (Ok None) before symbols = before ≡ no_more None symbols
TellsLast (Ok (Some row)) before symbols = before ≡ behind_row row (no_more None symbols)
TellsLast (Err e) before symbols = IsFaultOf e before

-- ---- where records end

-- where csv's machine stands in a text: its state, the number of the record at hand, and how many bytes of it came, with the empty lines before it
pub record Standing : Type 0 where
  pub state : State
  pub number : ℕ
  pub bytes : ℕ

-- before the first byte
abbrev pub at_start : Standing
at_start = record { state = state.StartRecord; number = 1; bytes = 0 }

-- where a byte leads that does this
abbrev pub stands_by : Standing → State × Action → Standing
stands_by s to = record { state = to.0; number = if is_end to.1 then s.number + 1 else s.number; bytes = if is_end to.1 then 0 else s.bytes + 1 }

-- where it stands behind these bytes
unfoldable pub stands_behind : Standing → List ℕ → Standing
stands_behind s [] = s
stands_behind s (c ∷ rest) = stands_behind (stands_by s (step default_config s.state c)) rest

-- where it stands behind the bytes of a text: a mark at their front is dropped, once
abbrev pub standing_after : List ℕ → Standing
standing_after bytes = stands_behind at_start (strip_bom bytes)

-- no record is open: the last one, if there is one, has ended by its line's end
abbrev pub IsBetween : Standing → Type 0
IsBetween s = ends_at_end s.state ≡ false

-- Every record that began within these bytes has ended within them, by its line's end.
abbrev pub HasNoneOpen : List ℕ → Type 0
HasNoneOpen bytes = IsBetween (standing_after bytes)

-- The record of this number is too long: as many bytes of it came as a file may have.
abbrev pub IsLong : List ℕ → ℕ → Type 0
IsLong bytes number = (number ≡ (standing_after bytes).number) × (max_input_bytes ≤ (standing_after bytes).bytes)

-- where a parser stands
abbrev pub standing_of : Parsing → Standing
standing_of p = record { state = state_of p.record.state; number = p.number; bytes = p.bytes }

-- where it stands in a stage behind these bytes
abbrev pub standing_in : Stage → Parsing → List ℕ → Standing
standing_in stage.Start p rest = standing_after (front_text p rest)
standing_in stage.Marked p rest = stands_behind at_start (front_text p rest)
standing_in stage.Header p rest = stands_behind (standing_of p) rest
standing_in stage.Trades p rest = stands_behind (standing_of p) rest

-- where it stands behind all that came and these bytes
abbrev pub standing_on : Parsing → List ℕ → Standing
standing_on p rest = standing_in p.stage p rest

-- an error that tells that the record at hand is too long tells it of its number, and where no byte more of it may come
abbrev pub TellsLong : StreamError → Parsing → Type 0
TellsLong (stream.TooLong rec) p = (rec ≡ p.number) × (max_input_bytes ≤ p.bytes)
TellsLong (stream.Refused fault) p = Unit {0}
TellsLong stream.Failed p = Unit {0}
TellsLong stream.OutOfMemory p = Unit {0}

-- an error that tells no length
abbrev pub TellsNoLength : StreamError → Type 0
TellsNoLength (stream.TooLong rec) = ⊥
TellsNoLength (stream.Refused fault) = Unit {0}
TellsNoLength stream.Failed = Unit {0}
TellsNoLength stream.OutOfMemory = Unit {0}

-- ---- parts

-- whether all that came, behind a mark that was dropped, is the front of a mark
abbrev pub is_front : Stage → Bool
is_front stage.Start = true
is_front stage.Marked = true
is_front stage.Header = false
is_front stage.Trades = false

-- whether the header came
abbrev pub has_header : Stage → Bool
has_header stage.Start = false
has_header stage.Marked = false
has_header stage.Header = false
has_header stage.Trades = true

-- nothing of a record came yet but the front of a mark, which isn't whole
pub record AtFront (p : Parsing) : Type 0 where
  pub few : p.bytes ≤ 2
  pub state : p.record.state ≡ stands.StartRecord
  pub field : p.record.field.items ≡ []
  pub fields : fields_of p.fields ≡ []

-- the parts fit together, so that a byte may be pushed
pub record IsReady (p : Parsing) : Type 0 where
  pub partial : partial_of p.fields ≡ []
  pub known : length p.form.symbols ≤ max_symbols
  pub within : p.bytes ≤ max_input_bytes
  pub front : is_front p.stage ≡ true → AtFront p
  pub new : has_header p.stage ≡ false → p.form.symbols ≡ []
  pub first : has_header p.stage ≡ false → p.number ≡ 1

-- a text with these bytes doesn't go on with a mark
abbrev pub IsUnmarked : Parsing → List ℕ → Type 0
IsUnmarked p rest = is_front p.stage ≡ true → starts_with_mark (front_text p rest) ≡ false

-- whether a byte goes on with the front of a mark
abbrev pub is_of_mark : Parsing → ℕ → Bool
is_of_mark p byte = is_front p.stage && (byte == get_or mark_bytes p.bytes 0)

-- bytes were taken: whatever comes behind them, the same is told, and the machine stands where it stood, and the same symbols are known
pub record Took (old : Parsing) (bytes : List ℕ) (new : Parsing) : Type 0 where
  pub ready : IsReady new
  pub told : (rest : List ℕ) → told_behind old (bytes ++ rest) ≡ told_behind new rest
  pub standing : (rest : List ℕ) → standing_on old (bytes ++ rest) ≡ standing_on new rest
  pub form : new.form ≡ old.form

-- a byte of a mark was taken; or it is none, and nothing is changed
abbrev pub TakesMark : Bool → Parsing → ℕ → Parsing → Type 0
TakesMark true old byte new = Took old (byte ∷ []) new
TakesMark false old byte new = (new ≡ old) × ((rest : List ℕ) → IsUnmarked old (byte ∷ rest))

-- the front of a mark that came is that of the header, since no mark comes of it
pub record LeavesFront (old new : Parsing) : Type 0 where
  pub ready : IsReady new
  pub left : is_front new.stage ≡ false
  pub told : (rest : List ℕ) → IsUnmarked old rest → told_behind old rest ≡ told_behind new rest
  pub standing : (rest : List ℕ) → IsUnmarked old rest → standing_on old rest ≡ standing_on new rest
  pub form : new.form ≡ old.form
  pub number : new.number ≡ old.number
  pub bytes : new.bytes ≡ old.bytes

-- the next record is at its start
pub record AtRecord (old new : Parsing) : Type 0 where
  pub ready : IsReady new
  pub stage : new.stage ≡ stage.Trades
  pub bytes : new.bytes ≡ 0
  pub state : new.record.state ≡ old.record.state
  pub field : new.record.field.items ≡ []
  pub fields : fields_of new.fields ≡ []

-- one name more is known, or none
abbrev pub Grows : List (List ℕ) → List (List ℕ) → Type 0
Grows old new = (new ≡ old) ⊎ ((name : List ℕ) × (new ≡ old ++ name ∷ []))

-- A row may have a symbol that was new. Without a row none is new.
abbrev pub Learns : Option Row → List (List ℕ) → List (List ℕ) → Type 0
Learns None old new = new ≡ old
Learns (Some row) old new = Grows old new
