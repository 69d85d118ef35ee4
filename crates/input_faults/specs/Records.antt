-- Where the records of a file and their fields stand in its bytes. What a record is, csv's own machine says.
use Rattle.std.specs.Prelude.{ℕ, zero, suc, ◌+◌, ◌-◌, List, [], ◌∷◌, length, take, drop, fold, Option, Some, None, if◌then◌else◌}
use Rattle.std.specs.List.{prefix_len}
use Rattle.csv.specs.Machine.{Read, next_record, step}
use Rattle.csv.specs.Reading.{default_config, strip_bom}
use Rattle.csv.specs.declared.parser.State.{State}
use Rattle.csv.specs.declared.parser.State.TheVariants as state
use Rattle.text_words.specs.Lines.{ends_line, is_blank, is_end_byte}
use Rattle.trade_text.specs.RecordStates.{is_field_end, state_of}
use Rattle.trade_text.specs.declared.record_state.RecordState.{RecordState}

-- ---- records

-- a state of csv's machine, and the text that is left there
pub record Left : Type 0 where
  pub state : State
  pub text : List ℕ

-- what a read of a record leaves
abbrev pub left_by : Option Read → Left
left_by None = record { state = state.StartRecord; text = [] }
left_by (Some read) = record { state = read.1; text = read.2 }

-- what is left behind the next record
abbrev pub behind_record : Left → Left
behind_record left = left_by (next_record default_config left.state [] [] left.text)

-- the same behind so many records
unfoldable pub behind_records : ℕ → Left → Left
behind_records zero left = left
behind_records (suc n) left = behind_records n (behind_record left)

-- what is left of a text in a state of the machine
abbrev pub left_of : RecordState → List ℕ → Left
left_of at text = record { state = state_of at; text = text }

-- a text of which nothing was read
abbrev pub at_start : List ℕ → Left
at_start text = record { state = state.StartRecord; text = text }

-- a text from its first byte on that ends no line
unfoldable pub drop_ends : List ℕ → List ℕ
drop_ends [] = []
drop_ends (b ∷ bytes) = if is_end_byte b then drop_ends bytes else b ∷ bytes

-- a text from the record of this number on: the first one is the header, and empty lines are no records
abbrev pub record_of : ℕ → List ℕ → List ℕ
record_of number text = drop_ends (behind_records (number - 1) (at_start text)).text

-- the fields of a record that was read, if one was
abbrev pub fields_read : Option Read → List (List ℕ)
fields_read None = []
fields_read (Some read) = read.0

-- the fields of the record with which a text begins
abbrev pub fields_in : List ℕ → List (List ℕ)
fields_in text = fields_read (next_record default_config state.StartRecord [] [] text)

-- the names in the header of a text, as a reader has them that drops a mark at the front
abbrev pub names_in : List ℕ → List (List ℕ)
names_in text = fields_in (strip_bom text)

-- ---- fields

-- what is left behind a field and the byte that ends it
unfoldable pub behind_field : State → List ℕ → Left
behind_field s [] = record { state = s; text = [] }
behind_field s (b ∷ bytes) =
    if is_field_end (step default_config s b).1 then record { state = (step default_config s b).0; text = bytes } else behind_field (step default_config s b).0 bytes

-- what is left behind so many fields
unfoldable pub behind_fields : ℕ → Left → Left
behind_fields zero left = left
behind_fields (suc n) left = behind_fields n (behind_field left.state left.text)

-- how many bytes a field has in the text, its quotes among them
unfoldable pub field_len : State → List ℕ → ℕ
field_len s [] = 0
field_len s (b ∷ bytes) = if is_field_end (step default_config s b).1 then 0 else field_len (step default_config s b).0 bytes + 1

-- a text that begins with a field, without the blanks at the field's front
abbrev pub word_start : Left → List ℕ
word_start left = drop (prefix_len is_blank left.text) left.text

-- the bytes of a field as they stand in the text, without the blanks at its front
abbrev pub word_in : Left → List ℕ
word_in left = take (field_len left.state left.text - prefix_len is_blank left.text) (word_start left)

-- ---- lines and columns

-- how many lines end in these bytes: a line ends in LF, CR LF or CR
unfoldable pub lines_ended : List ℕ → ℕ
lines_ended [] = 0
lines_ended (b ∷ bytes) = if ends_line b bytes then lines_ended bytes + 1 else lines_ended bytes

-- the line of the byte behind these bytes
abbrev pub line_behind : List ℕ → ℕ
line_behind front = lines_ended front + 1

-- the column behind a byte in a column: the first one behind the end of a line
abbrev pub column_after : ℕ → ℕ → ℕ
column_after column b = if is_end_byte b then 1 else column + 1

-- the column of the byte behind these bytes: how many bytes stand between it and the end of the line before, and one
abbrev pub column_behind : List ℕ → ℕ
column_behind front = fold column_after 1 front

-- the bytes of a text before what is left of it
abbrev pub before : List ℕ → List ℕ → List ℕ
before rest text = take (length text - length rest) text
