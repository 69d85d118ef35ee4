-- Records that csv reads: each has a field, and there are at most as many as bytes; and what csv writes of records reads back.
use Rattle.std.proofs.Common.{Bor, ℕ, zero, suc, ◌≡◌, ◌+◌, ◌≤◌, Bool, true, false, List, [], ◌∷◌, ◌++◌, length, Option, Some, None, Ok, Err, refl, sym, ap, subst, ◌∙◌, arith, nat_lt, if◌then◌else◌}
use Rattle.std.proofs.lemmas.Bool.{false≢true}
use Rattle.csv.specs.Machine.{Read as Found, ends_at_end, field_after, fields_after, is_end, next_record, step}
use Rattle.csv.specs.Reading.{default_config, is_bom, records, records_from, records_next, strip_bom}
use Rattle.csv.specs.Writing.{read_back}
use Rattle.csv.specs.declared.parser.Action.{Action}
use Rattle.csv.specs.declared.parser.Action.TheVariants as action
use Rattle.csv.specs.declared.parser.State.{State}
use Rattle.csv.specs.declared.parser.State.TheVariants as state
use Rattle.csv.proofs.RoundTrip.{read-write}
use Rattle.trade_text.specs.Files.{File, file_of, file_of_records, file_of_text}
use Rattle.trade_text.specs.Records.{TakesNext, records_left, starts_with_mark}
use Rattle.csv.specs.declared.reader.Reader.{Reader}
use Rattle.trade_text.specs.Results.{Read}
use Rattle.trade_text.specs.declared.error.ReadError.TheVariants as error
use Rattle.trade_text.proofs.Marks.{strip_bom-plain}
use Rattle.trade_text.proofs.Reading.{text_is}
use Rattle.trade_text.proofs.RecordFacts.{IsAfter, next_record-after, records_left-more, records_left-none}
use Rattle.record_faults.specs.Alone.{IsRecord, lone_text}
use Rattle.record_faults.specs.Written.{file_text, rows_text}
use Rattle.record_faults.proofs.Records.{AreRecords}

-- ---- each record has a field

pushed : (fields : List (List ℕ)) (field : List ℕ) → IsRecord (fields ++ (field ∷ []))
pushed [] field = refl
pushed (first ∷ fields) field = refl

-- what a read gives is a record
abbrev pub GivesRecord : Option Found → Type 0
GivesRecord None = Unit {0}
GivesRecord (Some p) = IsRecord p.0

ended : (a : Action) (fields : List (List ℕ)) (field : List ℕ) → is_end a ≡ true → IsRecord (fields_after a fields field)
ended action.EndRecord fields field ends = pushed fields field
ended action.Skip fields field ends = absurd (false≢true ends)
ended action.Copy fields field ends = absurd (false≢true ends)
ended action.EndField fields field ends = absurd (false≢true ends)

at_end : (ends : Bool) (fields : List (List ℕ)) (field : List ℕ) → GivesRecord (if ends then Some (fields ++ (field ∷ []), state.StartRecord, []) else None)
at_end true fields field = pushed fields field
at_end false fields field = tt

at_byte : (a : Action) (ends : Bool) (fields : List (List ℕ)) (field : List ℕ) (s : State) (rest : List ℕ) (more : Option Found) → is_end a ≡ ends → GivesRecord more
    → GivesRecord (if ends then Some (fields_after a fields field, s, rest) else more)
at_byte a true fields field s rest more e later = ended a fields field e
at_byte a false fields field s rest more e later = later

pub gives_record : (s : State) (fields : List (List ℕ)) (field text : List ℕ) → GivesRecord (next_record default_config s fields field text)
unfolding next_record
gives_record s fields field [] = at_end (ends_at_end s) fields field
gives_record s fields field (c ∷ rest) =
    let a = (step default_config s c).1 in
    let to = (step default_config s c).0 in
    at_byte a (is_end a) fields field to rest (next_record default_config to (fields_after a fields field) (field_after a c field) rest) refl
    (gives_record to (fields_after a fields field) (field_after a c field) rest)

-- ---- the records of a text

none_left : (s : State) → ends_at_end s ≡ false → next_record default_config s [] [] [] ≡ None
unfolding next_record
none_left s between = rw between refl

pub are_records : (n : ℕ) (s : State) (text : List ℕ) → AreRecords (records_from default_config n s text)
unfolding records_from
are_records zero s text = tt
are_records (suc n) s text = go (next_record default_config s [] [] text) (gives_record s [] [] text) (λ (p : Found). are_records n p.1 p.2)
  where
    go : (next : Option Found) → GivesRecord next → ((p : Found) → AreRecords (records_from default_config n p.1 p.2)) → AreRecords (records_next (records_from default_config n) next)
    go None is more = tt
    go (Some p) is more = (is, more p)

pub are_few : (n : ℕ) (s : State) (text : List ℕ) → ends_at_end s ≡ false → length (records_from default_config n s text) ≤ length text
unfolding records_from
are_few zero s text between = omega arith
are_few (suc n) s [] between = rw (none_left s between) (omega arith)
are_few (suc n) s (c ∷ rest) between =
    go (next_record default_config s [] [] (c ∷ rest)) (next_record-after s [] [] (c ∷ rest)) (λ (p : Found) (after : ends_at_end p.1 ≡ false). are_few n p.1 p.2 after)
  where
    go : (next : Option Found) → IsAfter (length (c ∷ rest)) next → ((p : Found) → ends_at_end p.1 ≡ false → length (records_from default_config n p.1 p.2) ≤ length p.2)
        → length (records_next (records_from default_config n) next) ≤ length (c ∷ rest)
    go None after more = omega arith
    go (Some p) after more = let few = more p after.0 in omega (arith, few, after.1)

-- ---- a file

short : (bytes : List ℕ) → length (strip_bom bytes) ≤ length bytes
unfolding strip_bom
short [] = omega arith
short (a ∷ []) = omega arith
short (a ∷ b ∷ []) = omega arith
short (a ∷ b ∷ c ∷ rest) = go (is_bom a b c)
  where
    go : (marked : Bool) → length (if marked then rest else a ∷ b ∷ c ∷ rest) ≤ length (a ∷ b ∷ c ∷ rest)
    go true = omega arith
    go false = omega arith

-- the header of a file is a record, and so are the records behind it, which are no more than bytes
pub record IsFile (bytes : List ℕ) (file : File) : Type 0 where
  pub header : IsRecord file.header
  pub records : AreRecords file.records
  pub few : length file.records ≤ length bytes

abbrev value_or : {F : Type 0} → File → Read F File → File
value_or other (Ok file) = file
value_or other (Err fault) = other

pub is_file : {F : Type 0} (bytes : List ℕ) (file : File) → file_of {F = F} bytes ≡ Ok file → IsFile bytes file
unfolding file_of
is_file {F} bytes file is = by_length (nat_lt 16777216 (length bytes)) is
  where
    by_records : (rows : List (List (List ℕ))) → AreRecords rows → length rows ≤ length bytes → file_of_records {F = F} rows ≡ Ok file → IsFile bytes file
    by_records [] are few e = cc e
    by_records (header ∷ rows) are few e =
        let same : record { header = header; records = rows } ≡ file = ap (value_or {F = F} file) e in
        subst (IsFile bytes) same (record { header = are.0; records = are.1; few = omega (arith, few) })

    by_mark : (marked : Bool) → (if marked then Err error.Header else file_of_records {F = F} (records default_config (strip_bom bytes))) ≡ Ok file → IsFile bytes file
    by_mark true e = cc e
    by_mark false e =
        let text = strip_bom bytes in
        by_records (records default_config text) (are_records (length text + 1) state.StartRecord text)
        (let few = are_few (length text + 1) state.StartRecord text refl in omega (arith, few, short bytes)) e

    by_length : (long : Bool) → (if long then Err (error.TooLong (length bytes)) else file_of_text {F = F} (strip_bom bytes)) ≡ Ok file → IsFile bytes file
    by_length true e = cc e
    by_length false e = by_mark (starts_with_mark (strip_bom bytes)) e

-- ---- what was written reads back

nothing : records_left state.StartRecord [] ≡ []
nothing = records_left-none state.StartRecord [] (none_left state.StartRecord refl)

pub rows_back : (rows : List (List (List ℕ))) → AreRecords rows → records_left state.StartRecord (rows_text rows) ≡ rows
rows_back [] are = nothing
rows_back (row ∷ rows) are =
    let found = read-write row (rows_text rows) in
    (records_left-more state.StartRecord (rows_text (row ∷ rows)) (read_back row, state.StartRecord, rows_text rows) refl found).0
    ∙ ap (λ first. first ∷ records_left state.StartRecord (rows_text rows)) are.0
    ∙ ap (λ more. row ∷ more) (rows_back rows are.1)

skips : (text : List ℕ) → next_record default_config state.StartRecord [] [] (10 ∷ text) ≡ next_record default_config state.StartRecord [] [] text
unfolding next_record
skips text = refl

-- an empty line at the front is no record
behind_line : (text : List ℕ) → records_left state.StartRecord (10 ∷ text) ≡ records_left state.StartRecord text
behind_line text = go (next_record default_config state.StartRecord [] [] text) refl
  where
    go : (next : Option Found) → next_record default_config state.StartRecord [] [] text ≡ next → records_left state.StartRecord (10 ∷ text) ≡ records_left state.StartRecord text
    go None is = records_left-none state.StartRecord (10 ∷ text) (skips text ∙ is) ∙ sym (records_left-none state.StartRecord text is)
    go (Some p) is = (records_left-more state.StartRecord (10 ∷ text) p refl (skips text ∙ is)).0 ∙ sym (records_left-more state.StartRecord text p refl is).0

unmarked : (text : List ℕ) → starts_with_mark (10 ∷ text) ≡ false
unmarked [] = refl
unmarked (b ∷ []) = refl
unmarked (b ∷ c ∷ rest) = refl

read_plain : {F : Type 0} (text : List ℕ) (header : List (List ℕ)) (rows : List (List (List ℕ))) → starts_with_mark text ≡ false → length text ≤ 16777216
    → records_left state.StartRecord text ≡ header ∷ rows → file_of {F = F} text ≡ Ok (record { header = header; records = rows })
read_plain {F} text header rows plain few is =
    text_is {F = F} text text (λ long. absurd (omega arith)) (sym (strip_bom-plain text plain)) plain ∙ ap (file_of_records {F = F}) is

-- records behind an empty line are a file
pub lone_file : {F : Type 0} (header : List (List ℕ)) (rows : List (List (List ℕ))) → IsRecord header → AreRecords rows → length (lone_text (header ∷ rows)) ≤ 16777216
    → file_of {F = F} (lone_text (header ∷ rows)) ≡ Ok (record { header = header; records = rows })
lone_file header rows is are few =
    read_plain (lone_text (header ∷ rows)) header rows (unmarked (rows_text (header ∷ rows))) few (behind_line (rows_text (header ∷ rows)) ∙ rows_back (header ∷ rows) (is, are))

-- records as csv writes them are a file
pub written_file : {F : Type 0} (header : List (List ℕ)) (rows : List (List (List ℕ))) → IsRecord header → AreRecords rows → length (file_text (header ∷ rows)) ≤ 16777216
    → file_of {F = F} (file_text (header ∷ rows)) ≡ Ok (record { header = header; records = rows })
written_file {F} header rows is are few = go (starts_with_mark (rows_text (header ∷ rows))) refl few
  where
    go : (marked : Bool) → starts_with_mark (rows_text (header ∷ rows)) ≡ marked → length ((if marked then 10 ∷ [] else []) ++ rows_text (header ∷ rows)) ≤ 16777216
        → file_of {F = F} ((if starts_with_mark (rows_text (header ∷ rows)) then 10 ∷ [] else []) ++ rows_text (header ∷ rows)) ≡ Ok (record { header = header; records = rows })
    go true marked few = rw marked (lone_file header rows is are few)
    go false marked few = rw marked (read_plain (rows_text (header ∷ rows)) header rows marked few (rows_back (header ∷ rows) (is, are)))

-- what was taken is a record
pub took_record : (s : State) (text : List ℕ) (found : Bool) (fields : List (List ℕ)) (reader : Reader (Bor (List ℕ))) → TakesNext (next_record default_config s [] [] text) found fields reader → found ≡ true → IsRecord fields
took_record s text found fields reader took is = go (next_record default_config s [] [] text) (gives_record s [] [] text) took
  where
    go : (next : Option Found) → GivesRecord next → TakesNext next found fields reader → IsRecord fields
    go None gives none = absurd (false≢true (sym none ∙ is))
    go (Some p) gives some = subst IsRecord (sym some.1) gives
