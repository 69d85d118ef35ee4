-- A line of plain fields reads as these fields.
use Rattle.std.proofs.Common.{ℕ, ◌≡◌, ◌==◌, Bool, true, false, not, List, [], ◌∷◌, ◌++◌, Some, refl, sym, ap, ◌∙◌, arith, append-nil}
use Rattle.std.specs.Prelude.{◌&&◌, nat_le}
use Rattle.std.specs.List.{join_with_byte, list_all, list_any}
use Rattle.std.proofs.lemmas.Bool.{false≢true}
use Rattle.std.proofs.lemmas.Bool.Decides.{nat_tests}
use Rattle.csv.proofs.RoundTrip.{read-write-many}
use Rattle.csv.specs.Machine.{next_record}
use Rattle.csv.specs.Reading.{default_config}
use Rattle.csv.specs.Writing.{default_writer, field_text, fields_text, is_blank as is_blank_row, needs_byte, row_text}
use Rattle.csv.specs.declared.parser.State.TheVariants as state
use Rattle.text_words.proofs.LineFacts.{both_true}
use Rattle.text_words.specs.Lines.{is_blank}
use Rattle.trade_text.proofs.RecordFacts.{records_left-more, records_left-none}
use Rattle.trade_text.specs.Fields.{drop_blanks, is_symbol_byte, trim_blanks, trim_end}
use Rattle.trade_text.specs.Records.{records_left}
use Rattle.trade_maker.specs.MadeText.{record_line}

-- ---- plain bytes

-- a byte of a plain field: printed, and neither blank, comma nor double quote
abbrev pub is_plain : ℕ → Bool
is_plain b = is_symbol_byte b && not (is_blank b)

not_true : (t : Bool) → not t ≡ true → t ≡ false
not_true true e = absurd (false≢true e)
not_true false e = refl

unmarked : (b : ℕ) → is_plain b ≡ true → needs_byte default_writer b ≡ false
unmarked b plain =
    let (symbol, unblank) = both_true (is_symbol_byte b) (not (is_blank b)) plain in
    let (more, quote) = both_true (nat_le 32 b && nat_le b 126 && not (b == 44)) (not (b == 34)) symbol in
    let (range, comma) = both_true (nat_le 32 b && nat_le b 126) (not (b == 44)) more in
    let (low, high) = both_true (nat_le 32 b) (nat_le b 126) range in
    let return : (b == 13) ≡ false = grind (arith, nat_tests, low) in
    let feed : (b == 10) ≡ false = grind (arith, nat_tests, low) in
    rw (not_true (b == 44) comma, not_true (b == 34) quote, return, feed) refl

unblank : (b : ℕ) → is_plain b ≡ true → is_blank b ≡ false
unblank b plain = not_true (is_blank b) (both_true (is_symbol_byte b) (not (is_blank b)) plain).1

unmarked_all : (field : List ℕ) → list_all is_plain field ≡ true → list_any (needs_byte default_writer) field ≡ false
unmarked_all [] plain = refl
unmarked_all (b ∷ field) plain =
    let (here, later) = both_true (is_plain b) (list_all is_plain field) plain in
    rw (unmarked b here, unmarked_all field later) refl

-- nothing is trimmed from a plain field

no_blank_first : (field : List ℕ) → list_all is_plain field ≡ true → drop_blanks field ≡ field
unfolding drop_blanks
no_blank_first [] plain = refl
no_blank_first (b ∷ field) plain =
    let (here, later) = both_true (is_plain b) (list_all is_plain field) plain in
    rw (unblank b here) refl

no_blank_last : (field : List ℕ) → list_all is_plain field ≡ true → trim_end field ≡ field
unfolding trim_end
no_blank_last [] plain = refl
no_blank_last (b ∷ field) plain =
    let (here, later) = both_true (is_plain b) (list_all is_plain field) plain in
    rw (unblank b here, no_blank_last field later) refl

pub trimmed_plain : (field : List ℕ) → list_all is_plain field ≡ true → trim_blanks field ≡ field
trimmed_plain field plain = rw (no_blank_first field plain) (no_blank_last field plain)

-- ---- records

abbrev pub IsPlain : List ℕ → Type 0
IsPlain field = list_all is_plain field ≡ true

abbrev pub ArePlain : List (List ℕ) → Type 0
ArePlain fields = list_all (list_all is_plain) fields ≡ true

unquoted : (field : List ℕ) → IsPlain field → field_text default_writer field ≡ field
unquoted field plain = rw (unmarked_all field plain) refl

joined : (field : List ℕ) (fields : List (List ℕ)) → ArePlain (field ∷ fields)
    → field_text default_writer field ++ fields_text default_writer fields ≡ join_with_byte 44 (field ∷ fields)
unfolding fields_text
joined field [] plain = append-nil (field_text default_writer field) ∙ unquoted field (both_true (list_all is_plain field) true plain).0
joined field (next ∷ fields) plain =
    let (here, later) = both_true (list_all is_plain field) (list_all (list_all is_plain) (next ∷ fields)) plain in
    rw (unquoted field here) (ap (λ more. field ++ 44 ∷ more) (joined next fields later))

-- a line of two plain fields or more is what csv writes of them
line_is_row : (first next : List ℕ) (fields : List (List ℕ)) → ArePlain (first ∷ next ∷ fields)
    → record_line (first ∷ next ∷ fields) ≡ row_text default_writer (first ∷ next ∷ fields)
unfolding is_blank_row
line_is_row first next fields plain = ap (λ text. text ++ 10 ∷ []) (sym (joined first (next ∷ fields) plain))

line_reads : (first next : List ℕ) (fields : List (List ℕ)) (rest : List ℕ) → ArePlain (first ∷ next ∷ fields)
    → next_record default_config state.StartRecord [] [] (record_line (first ∷ next ∷ fields) ++ rest) ≡ Some (first ∷ next ∷ fields, state.StartRecord, rest)
line_reads first next fields rest plain = rw (line_is_row first next fields plain) (read-write-many first next fields rest)

-- the records of a text that begins with such a line
pub line_first : (first next : List ℕ) (fields : List (List ℕ)) (rest : List ℕ) → ArePlain (first ∷ next ∷ fields)
    → records_left state.StartRecord (record_line (first ∷ next ∷ fields) ++ rest) ≡ (first ∷ next ∷ fields) ∷ records_left state.StartRecord rest
line_first first next fields rest plain =
    (records_left-more state.StartRecord (record_line (first ∷ next ∷ fields) ++ rest) (first ∷ next ∷ fields, state.StartRecord, rest) refl (line_reads first next fields rest plain)).0

-- a text without bytes has no records
pub none_left : records_left state.StartRecord [] ≡ []
unfolding next_record
none_left = records_left-none state.StartRecord [] refl
