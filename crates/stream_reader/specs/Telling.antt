-- What a reader of a stream tells of the bytes that came.
use Rattle.std.specs.Prelude.{ℕ, ◌≡◌, Bool, true, false, List, [], ◌∷◌, ◌++◌, length, take, Option, Some, None, Ok, Err, Result}
use mathlib.Core.List.{IsPrefix}
use Rattle.tuple_edge.specs.declared.row.Row.{Row}
use Rattle.symbol_names.specs.Names.{name_of}
use Rattle.symbol_names.specs.declared.symbol_name.SymbolName.{SymbolName}
use Rattle.trade_stream.specs.Pushed.{Grows, HasNoneOpen, IsLong, standing_after, standing_on, told_behind}
use Rattle.trade_text.specs.Streams.{Told, told_of}
use Rattle.trade_text.specs.TradesView.{IsInputRow}
use Rattle.trade_text.specs.declared.error.StreamError.{StreamError}
use Rattle.trade_text.specs.declared.error.StreamError.TheVariants as stream
use Rattle.trade_stream.specs.declared.parsing.Parsing.{Parsing}
use Rattle.stream_reader.specs.declared.trade.Next.{Next}
use Rattle.stream_reader.specs.declared.trade.Next.TheVariants as next
use Rattle.stream_reader.specs.declared.trade.Trade.{Trade}

-- ---- what was told

-- what contracts see of a reader: the bytes that were looked at, those that came and weren't looked at yet, the rows that were told, the names of the symbols
-- that were told, in the order of their numbers, and whether nothing more is told
pub record StreamView : Type 0 where
  pub looked : List ℕ
  pub at_hand : List ℕ
  pub rows : List Row
  pub names : List (List ℕ)
  pub over : Bool

-- all bytes that came
abbrev pub came : StreamView → List ℕ
came v = v.looked ++ v.at_hand

-- the name that came with a trade, if one did
abbrev pub name_in : Option SymbolName → List (List ℕ)
name_in None = []
name_in (Some name) = name_of name ∷ []

-- whatever comes behind these bytes, these are the first rows that they say, and the first symbols
abbrev pub AreFirst : List ℕ → List Row → List (List ℕ) → Type 0
AreFirst bytes rows names = (rest : List ℕ) → IsPrefix rows (told_of (bytes ++ rest)).rows × IsPrefix names (told_of (bytes ++ rest)).symbols

-- the row of every record that has ended within these bytes is among these
abbrev pub EndedAreTold : List ℕ → List Row → Type 0
EndedAreTold bytes rows = (front rest : List ℕ) → bytes ≡ front ++ rest → HasNoneOpen front → take (length (told_of front).rows) rows ≡ (told_of front).rows

-- ---- what calls tell

-- a trade was told
pub record TellsTrade (old : StreamView) (trade : Trade) (new : StreamView) : Type 0 where
  pub rows : new.rows ≡ old.rows ++ trade.row ∷ []
  pub names : new.names ≡ old.names ++ name_in trade.name
  pub within : IsInputRow trade.row
  pub goes_on : new.over ≡ false

-- nothing was told, and there is nothing more at hand: every record that has ended is told
pub record TellsNothing (old new : StreamView) : Type 0 where
  pub rows : new.rows ≡ old.rows
  pub names : new.names ≡ old.names
  pub at_hand : new.at_hand ≡ []
  pub ended : EndedAreTold new.looked new.rows
  pub goes_on : new.over ≡ false

-- an error is the first fault of what is said, behind these rows; want of memory may come at any time, a failure of the source where its faults rose, and a record is too long by its
-- bytes, whatever it says
abbrev pub IsFirstFault : StreamError → List Row → Told → Type 0
IsFirstFault (stream.Refused fault) rows told = (told.rows ≡ rows) × (told.fault ≡ Some fault)
IsFirstFault (stream.TooLong rec) rows told = IsPrefix rows told.rows
IsFirstFault stream.Failed rows told = IsPrefix rows told.rows
IsFirstFault stream.OutOfMemory rows told = IsPrefix rows told.rows

-- a record was told as too long: as many bytes of it came as a file may have, and then one more
abbrev pub HasTooMany : List ℕ → ℕ → Type 0
HasTooMany looked number = (before : List ℕ) × (byte : ℕ) × (looked ≡ before ++ byte ∷ []) × IsLong before number

-- an error was told: whatever comes behind the bytes that were looked at, it is the first fault
pub record TellsFault (old : StreamView) (e : StreamError) (new : StreamView) : Type 0 where
  pub rows : new.rows ≡ old.rows
  pub fault : (rest : List ℕ) → IsFirstFault e old.rows (told_of (new.looked ++ rest))
  pub long : (number : ℕ) → e ≡ stream.TooLong number → HasTooMany new.looked number
  pub over : new.over ≡ true

-- a byte was looked at, and this told
abbrev pub Pushes : StreamView → Result (Option Row) StreamError → StreamView → Type 0
Pushes old (Ok None) new = (new.rows ≡ old.rows) × (new.names ≡ old.names) × (new.over ≡ false)
Pushes old (Ok (Some row)) new = (new.rows ≡ old.rows ++ row ∷ []) × Grows old.names new.names × IsInputRow row × (new.over ≡ false)
Pushes old (Err e) new = TellsFault old e new

-- a call that takes what is at hand told this
abbrev pub Takes : StreamView → Result Next StreamError → StreamView → Type 0
Takes old (Ok (next.Trade trade)) new = TellsTrade old trade new
Takes old (Ok next.Nothing) new = TellsNothing old new
Takes old (Err e) new = TellsFault old e new

-- The bytes that came are all: what they say is the rows that were told, with no fault, and the symbols.
abbrev pub AreAll : List ℕ → List Row → List (List ℕ) → Type 0
AreAll bytes rows names = told_of bytes ≡ record { rows = rows; fault = None; symbols = names }

-- a call that takes the end told this
abbrev pub Finishes : StreamView → Result (Option Trade) StreamError → StreamView → Type 0
Finishes old (Ok None) new = AreAll old.looked old.rows old.names × (new.rows ≡ old.rows) × (new.names ≡ old.names)
Finishes old (Ok (Some trade)) new = AreAll old.looked new.rows new.names × (new.rows ≡ old.rows ++ trade.row ∷ []) × (new.names ≡ old.names ++ name_in trade.name)
Finishes old (Err e) new = IsFirstFault e old.rows (told_of old.looked) × (new.rows ≡ old.rows)

-- ---- how a parser stands to it

-- these rows, and then what else is told
abbrev pub behind_rows : List Row → Told → Told
behind_rows rows later = record later { rows = rows ++ later.rows }

-- A parser is still to tell what bytes say behind the rows that were told, whatever comes, and every record that has ended is told.
pub record Follows (looked : List ℕ) (rows : List Row) (parsing : Parsing) : Type 0 where
  pub told : (rest : List ℕ) → told_of (looked ++ rest) ≡ behind_rows rows (told_behind parsing rest)
  pub standing : (rest : List ℕ) → standing_after (looked ++ rest) ≡ standing_on parsing rest
  pub ended : EndedAreTold looked rows
