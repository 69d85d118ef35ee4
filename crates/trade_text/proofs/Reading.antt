-- One record more.
use Rattle.std.proofs.Common.{ℕ, ◌≡◌, ◌+◌, ◌<◌, ◌≤◌, true, false, List, [], ◌∷◌, Some, None, Option, Ok, Err, refl, sym, ap, ◌∙◌, arith, Bor, length, nat_lt}
use Rattle.std.proofs.lemmas.Bool.{false≢true}
use Rattle.csv.specs.Machine.{Read as Found, ends_at_end, next_record}
use Rattle.std.proofs.lemmas.Bool.Decides.{nat_tests}
use Rattle.csv.specs.Reading.{default_config, strip_bom}
use Rattle.csv.specs.declared.parser.State.{State}
use Rattle.csv.specs.declared.parser.State.TheVariants as state
use Rattle.csv.specs.declared.reader.Reader.{Reader}
use Rattle.tuple_edge.specs.declared.row.Row.{Row}
use Rattle.trade_text.specs.Files.{IsOpen, RowsRead, file_of, file_of_records, row_onto, rows_onto, with_row}
use Rattle.trade_text.specs.Records.{HasLeft, TakesNext, records_left, starts_with_mark}
use Rattle.trade_text.specs.Refusals.{IsRefusalOf}
use Rattle.trade_text.specs.Results.{Read, ◌>>=◌}
use Rattle.trade_text.specs.declared.error.ReadError.{ReadError}
use Rattle.trade_text.specs.declared.error.ReadError.TheVariants as error
use Rattle.trade_text.proofs.RecordFacts.{records_left-more, records_left-none}

-- what a call that took a record leaves
pub record Goes (state : State) (text : List ℕ) (fields : List (List ℕ)) (reader : Reader (Bor (List ℕ))) : Type 0 where
  pub after : State
  pub rest : List ℕ
  pub records : records_left state text ≡ fields ∷ records_left after rest
  pub between : ends_at_end after ≡ false
  pub left : HasLeft reader after rest

goes_from : (state : State) (text : List ℕ) (next : Option Found) (fields : List (List ℕ)) (reader : Reader (Bor (List ℕ))) → ends_at_end state ≡ false
    → next_record default_config state [] [] text ≡ next → TakesNext next true fields reader → Goes state text fields reader
goes_from state text None fields reader between is took = absurd (false≢true (sym took))
goes_from state text (Some p) fields reader between is took =
    let more = records_left-more state text p between is in
    record { after = p.1; rest = p.2; records = more.0 ∙ ap (λ fs. fs ∷ records_left p.1 p.2) (sym took.1); between = more.1; left = took.2 }

-- a record was taken
pub record_more : (state : State) (text : List ℕ) (fields : List (List ℕ)) (reader : Reader (Bor (List ℕ))) → ends_at_end state ≡ false
    → TakesNext (next_record default_config state [] [] text) true fields reader → Goes state text fields reader
record_more state text fields reader between took = goes_from state text (next_record default_config state [] [] text) fields reader between refl took

ends_from : (state : State) (text : List ℕ) (next : Option Found) (fields : List (List ℕ)) (reader : Reader (Bor (List ℕ)))
    → next_record default_config state [] [] text ≡ next → TakesNext next false fields reader → records_left state text ≡ []
ends_from state text None fields reader is took = records_left-none state text is
ends_from state text (Some p) fields reader is took = absurd (false≢true took.0)

-- there was none
pub record_none : (state : State) (text : List ℕ) (fields : List (List ℕ)) (reader : Reader (Bor (List ℕ)))
    → TakesNext (next_record default_config state [] [] text) false fields reader → records_left state text ≡ []
record_none state text fields reader took = ends_from state text (next_record default_config state [] [] text) fields reader refl took

-- ---- refusals

-- a refusal is itself
pub fails_same : {F A : Type 0} (e : ReadError F) (read : Read F A) → read ≡ Err e → IsRefusalOf e read
fails_same error.Header read is = is
fails_same (error.Row number) read is = is
fails_same (error.Field number what) read is = is
fails_same (error.Range number what) read is = is
fails_same error.TooMany read is = is
fails_same (error.TooLong bytes) read is = is
fails_same error.OutOfMemory read is = tt

-- a refusal of a first step is one of the whole
pub fails_then : {F A B : Type 0} (e : ReadError F) (first : Read F A) (next : A → Read F B) → IsRefusalOf e first → IsRefusalOf e (first >>= next)
fails_then error.Header first next fault = rw fault refl
fails_then (error.Row number) first next fault = rw fault refl
fails_then (error.Field number what) first next fault = rw fault refl
fails_then (error.Range number what) first next fault = rw fault refl
fails_then error.TooMany first next fault = rw fault refl
fails_then (error.TooLong bytes) first next fault = rw fault refl
fails_then error.OutOfMemory first next fault = tt

-- ---- the records behind the header

module _ {F K : Type 0} (row_in : ℕ → K → List (List ℕ) → Read F (Row × K)) (room : ℕ) where
  -- the rows read so far, and what is left to read of the whole
  pub record GoesOn (turn : ℕ) (so_far : RowsRead K) (reader : Reader (Bor (List ℕ))) (whole : Read F (RowsRead K)) : Type 0 where
    pub state : State
    pub text : List ℕ
    pub left : HasLeft reader state text
    pub between : ends_at_end state ≡ false
    pub is : whole ≡ rows_onto row_in room (turn + 2) so_far (records_left state text)

  -- a record was taken: the whole is what this record and then the rest give
  pub taken : (turn : ℕ) (so_far : RowsRead K) (old new : Reader (Bor (List ℕ))) (whole : Read F (RowsRead K)) (fields : List (List ℕ))
      → (g : GoesOn turn so_far old whole) → TakesNext (next_record default_config g.state [] [] g.text) true fields new
      → (more : Goes g.state g.text fields new) × (whole ≡ row_onto row_in room (turn + 2) so_far fields >>= λ t. rows_onto row_in room (turn + 2 + 1) t (records_left more.after more.rest))
  taken turn so_far old new whole fields g took =
      let more = record_more g.state g.text fields new g.between took in
      (more, g.is ∙ ap (rows_onto row_in room (turn + 2) so_far) more.records)

  -- there was none: the rows are all
  pub ended : (turn : ℕ) (so_far : RowsRead K) (old new : Reader (Bor (List ℕ))) (whole : Read F (RowsRead K)) (fields : List (List ℕ))
      → (g : GoesOn turn so_far old whole) → TakesNext (next_record default_config g.state [] [] g.text) false fields new → whole ≡ Ok so_far
  ended turn so_far old new whole fields g took = g.is ∙ ap (rows_onto row_in room (turn + 2) so_far) (record_none g.state g.text fields new took)

  pub onto : (number : ℕ) (so_far : RowsRead K) (fields : List (List ℕ)) → length so_far.rows < room
      → row_onto row_in room number so_far fields ≡ row_in number so_far.kept fields >>= λ next. Ok (with_row so_far.rows next)
  unfolding row_onto
  onto number so_far fields few = let test : nat_lt (length so_far.rows) room ≡ true = grind (arith, nat_tests) in rw test refl

  -- a row is refused
  pub refused : (turn : ℕ) (so_far : RowsRead K) (old new : Reader (Bor (List ℕ))) (whole : Read F (RowsRead K)) (fields : List (List ℕ)) (e : ReadError F) → length so_far.rows < room
      → (g : GoesOn turn so_far old whole) → TakesNext (next_record default_config g.state [] [] g.text) true fields new → IsRefusalOf e (row_in (turn + 2) so_far.kept fields) → IsRefusalOf e whole
  refused turn so_far old new whole fields e few g took fault =
      let t = taken turn so_far old new whole fields g took in
      rw (t.1, onto (turn + 2) so_far fields few)
      (fails_then e (row_in (turn + 2) so_far.kept fields >>= λ next. Ok (with_row so_far.rows next)) (λ more. rows_onto row_in room (turn + 2 + 1) more (records_left t.0.after t.0.rest))
      (fails_then e (row_in (turn + 2) so_far.kept fields) (λ next. Ok (with_row so_far.rows next)) fault))

  -- a row was read
  pub goes_on : (turn : ℕ) (so_far : RowsRead K) (old new : Reader (Bor (List ℕ))) (whole : Read F (RowsRead K)) (fields : List (List ℕ)) (row : Row) (kept : K) → length so_far.rows < room
      → (g : GoesOn turn so_far old whole) → TakesNext (next_record default_config g.state [] [] g.text) true fields new → row_in (turn + 2) so_far.kept fields ≡ Ok (row, kept)
      → GoesOn (turn + 1) (with_row so_far.rows (row, kept)) new whole
  goes_on turn so_far old new whole fields row kept few g took read =
      let t = taken turn so_far old new whole fields g took in
      let added : row_onto row_in room (turn + 2) so_far fields ≡ Ok (with_row so_far.rows (row, kept)) =
      onto (turn + 2) so_far fields few ∙ ap (λ (r : Read F (Row × K)). r >>= λ next. Ok (with_row so_far.rows next)) read in
      let number : turn + 2 + 1 ≡ turn + 1 + 2 = omega arith in
      record {
        state = t.0.after;
        text = t.0.rest;
        left = t.0.left;
        between = t.0.between;
        is = t.1 ∙ ap (λ (r : Read F (RowsRead K)). r >>= λ more. rows_onto row_in room (turn + 2 + 1) more (records_left t.0.after t.0.rest)) added
            ∙ ap (λ n. rows_onto row_in room n (with_row so_far.rows (row, kept)) (records_left t.0.after t.0.rest)) number;
      }

  -- one record too many
  pub too_many : (turn : ℕ) (so_far : RowsRead K) (old new : Reader (Bor (List ℕ))) (whole : Read F (RowsRead K)) (fields : List (List ℕ)) → room ≤ length so_far.rows
      → (g : GoesOn turn so_far old whole) → TakesNext (next_record default_config g.state [] [] g.text) true fields new → whole ≡ Err error.TooMany
  unfolding row_onto
  too_many turn so_far old new whole fields full g took =
      let t = taken turn so_far old new whole fields g took in
      let test : nat_lt (length so_far.rows) room ≡ false = grind (arith, nat_tests) in
      t.1 ∙ rw test refl

-- ---- a whole file

module _ {F : Type 0} where
  -- a text that isn't too long, and has no second mark
  pub text_is : (bytes text : List ℕ) → (16777216 < length bytes → ⊥) → text ≡ strip_bom bytes → starts_with_mark text ≡ false → file_of {F = F} bytes ≡ file_of_records (records_left state.StartRecord text)
  unfolding file_of
  text_is bytes text short stripped plain =
      let test : nat_lt 16777216 (length bytes) ≡ false = grind (arith, nat_tests) in
      rw (test, ← stripped, plain) refl

  pub reads_none : (bytes text : List ℕ) (fields : List (List ℕ)) (reader : Reader (Bor (List ℕ))) → (16777216 < length bytes → ⊥) → text ≡ strip_bom bytes → starts_with_mark text ≡ false
      → TakesNext (next_record default_config state.StartRecord [] [] text) false fields reader → file_of {F = F} bytes ≡ Err error.Header
  reads_none bytes text fields reader short stripped plain took =
      text_is bytes text short stripped plain ∙ ap file_of_records (record_none state.StartRecord text fields reader took)

  pub reads_header : (bytes text : List ℕ) (fields : List (List ℕ)) (reader : Reader (Bor (List ℕ))) → (16777216 < length bytes → ⊥) → text ≡ strip_bom bytes → starts_with_mark text ≡ false
      → TakesNext (next_record default_config state.StartRecord [] [] text) true fields reader → IsOpen (file_of {F = F} bytes) fields reader
  reads_header bytes text fields reader short stripped plain took =
      let more = record_more state.StartRecord text fields reader refl took in
      record {
        state = more.after;
        text = more.rest;
        left = more.left;
        between = more.between;
        is = text_is bytes text short stripped plain ∙ ap file_of_records more.records;
      }
