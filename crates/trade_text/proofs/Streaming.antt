-- One record more of what comes over a reader.
use Rattle.std.proofs.Common.{ℕ, ◌≡◌, ◌+◌, true, false, List, [], ◌∷◌, Option, Some, None, Ok, Err, refl, sym, ap, ◌∙◌}
use Rattle.std.proofs.lemmas.Bool.{false≢true}
use Rattle.csv.specs.Machine.{Read as Found, ends_at_end, next_record}
use Rattle.csv.specs.Reading.{default_config, records, strip_bom}
use Rattle.csv.specs.declared.parser.State.{State}
use Rattle.csv.specs.declared.parser.State.TheVariants as state
use Rattle.tuple_edge.specs.declared.row.Row.{Row}
use Rattle.trade_text.specs.Columns.{trade_columns}
use Rattle.trade_text.specs.Records.{records_left, starts_with_mark}
use Rattle.trade_text.specs.Refusals.{IsRefusalOf}
use Rattle.trade_text.specs.Results.{Read}
use Rattle.trade_text.specs.StreamRecords.{StandsAt, TakesOne}
use Rattle.trade_text.specs.Streams.{HasRecords, IsFaultOf, Tells, Told, behind_row, no_more, told_error, told_from, told_next, told_of, told_of_records, told_of_text, told_under}
use Rattle.trade_text.specs.Trades.{trade_in}
use Rattle.trade_text.specs.declared.columns.TradeColumns.{TradeColumns}
use Rattle.trade_text.specs.declared.error.Field.{Field}
use Rattle.trade_text.specs.declared.error.ReadError.{ReadError}
use Rattle.trade_text.specs.declared.error.ReadError.TheVariants as error
use Rattle.trade_text.specs.declared.error.StreamError.TheVariants as stream
use Rattle.trade_text.specs.declared.record_reader.RecordReader.{RecordReader}
use Rattle.trade_text.specs.declared.trade_file.TradeForm.{TradeForm}
use Rattle.trade_text.proofs.RecordFacts.{records_left-more, records_left-none}

-- what is told next is a fault
abbrev pub IsFault : ReadError Field → Told → Type 0
IsFault e told = (told.rows ≡ []) × (told.fault ≡ Some e)

pub fault_of : (e : ReadError Field) (known : List (List ℕ)) (told : Told) → told ≡ no_more (Some e) known → IsFault e told
fault_of e known told is = (ap (λ (t : Told). t.rows) is, ap (λ (t : Told). t.fault) is)

-- whatever the refusal of a reading is, a call that tells it tells the fault
pub fault_by : {A : Type 0} (e : ReadError Field) (read : Read Field A) (told : Told) → ((e : ReadError Field) → read ≡ Err e → IsFault e told) → IsRefusalOf e read → IsFaultOf (told_error e) told
fault_by error.Header read told by is = by error.Header is
fault_by (error.Row number) read told by is = by (error.Row number) is
fault_by (error.Field number what) read told by is = by (error.Field number what) is
fault_by (error.Range number what) read told by is = by (error.Range number what) is
fault_by error.TooMany read told by is = by error.TooMany is
fault_by (error.TooLong bytes) read told by is = by (error.TooLong bytes) is
fault_by error.OutOfMemory read told by is = tt

pub refusal_is : {A : Type 0} (e : ReadError Field) (read : Read Field A) → read ≡ Err e → IsRefusalOf e read
refusal_is error.Header read is = is
refusal_is (error.Row number) read is = is
refusal_is (error.Field number what) read is = is
refusal_is (error.Range number what) read is = is
refusal_is error.TooMany read is = is
refusal_is (error.TooLong bytes) read is = is
refusal_is error.OutOfMemory read is = tt

module _ {R : Type 0} (rem : R → Option (List ℕ)) where
  -- what a call that took a record leaves
  pub record GoesOn (left : List (List (List ℕ))) (fields : List (List ℕ)) (reader : RecordReader R) : Type 0 where
    pub rest : List (List (List ℕ))
    pub records : left ≡ fields ∷ rest
    pub has : HasRecords rem reader rest

  more_from : (s : State) (text : List ℕ) (next : Option Found) (fields : List (List ℕ)) (reader : RecordReader R) → ends_at_end s ≡ false
      → next_record default_config s [] [] text ≡ next → TakesOne rem next true fields reader → GoesOn (records_left s text) fields reader
  more_from s text None fields reader between is took = absurd (false≢true (sym took))
  more_from s text (Some p) fields reader between is took =
      let more = records_left-more s text p between is in
      record {
        rest = records_left p.1 p.2;
        records = more.0 ∙ ap (λ fs. fs ∷ records_left p.1 p.2) (sym took.1);
        has = record { state = p.1; text = p.2; stands = took.2; between = more.1; are = refl };
      }

  none_from : (s : State) (text : List ℕ) (next : Option Found) (fields : List (List ℕ)) (reader : RecordReader R)
      → next_record default_config s [] [] text ≡ next → TakesOne rem next false fields reader → records_left s text ≡ []
  none_from s text None fields reader is took = records_left-none s text is
  none_from s text (Some p) fields reader is took = absurd (false≢true took.0)

  one_more : (left : List (List (List ℕ))) (old new : RecordReader R) (fields : List (List ℕ)) (h : HasRecords rem old left)
      → TakesOne rem (next_record default_config h.state [] [] h.text) true fields new → GoesOn left fields new
  one_more left old new fields h took =
      let m = more_from h.state h.text (next_record default_config h.state [] [] h.text) fields new h.between refl took in
      record { rest = m.rest; records = h.are ∙ m.records; has = m.has }

  none_left : (left : List (List (List ℕ))) (old new : RecordReader R) (fields : List (List ℕ)) (h : HasRecords rem old left)
      → TakesOne rem (next_record default_config h.state [] [] h.text) false fields new → left ≡ []
  none_left left old new fields h took = h.are ∙ none_from h.state h.text (next_record default_config h.state [] [] h.text) fields new refl took

  -- ---- trades

  module _ (old new : RecordReader R) (number : ℕ) (form : TradeForm) (told : Told) (fields : List (List ℕ)) (t : Tells rem old number form told) where
    -- a record was read
    pub tells_row : (row : Row) (kept : TradeForm) → TakesOne rem (next_record default_config t.has.state [] [] t.has.text) true fields new → trade_in number form fields ≡ Ok (row, kept)
        → (later : Told) × (told ≡ behind_row row later) × Tells rem new (number + 1) kept later
    tells_row row kept took read =
        let m = one_more t.left old new fields t.has took in (
          told_from (number + 1) kept m.rest,
          t.is ∙ ap (told_from number form) m.records ∙ ap (told_next (λ form. told_from (number + 1) form m.rest) form.symbols) read,
          record { left = m.rest; has = m.has; is = refl },
        )

    -- a record is refused
    pub tells_fault : (e : ReadError Field) → TakesOne rem (next_record default_config t.has.state [] [] t.has.text) true fields new → IsRefusalOf e (trade_in number form fields) → IsFaultOf (told_error e) told
    tells_fault e took fault =
        let m = one_more t.left old new fields t.has took in
        fault_by e (trade_in number form fields) told
        (λ e is. fault_of e form.symbols told (t.is ∙ ap (told_from number form) m.records ∙ ap (told_next (λ form. told_from (number + 1) form m.rest) form.symbols) is))
        fault

    -- there is none
    pub tells_none : TakesOne rem (next_record default_config t.has.state [] [] t.has.text) false fields new → told ≡ no_more None form.symbols
    tells_none took = t.is ∙ ap (told_from number form) (none_left t.left old new fields t.has took)

  -- ---- the header

  abbrev at_start : (bytes : List ℕ) (old : RecordReader R) → StandsAt rem old state.StartRecord (strip_bom bytes) → HasRecords rem old (records_left state.StartRecord (strip_bom bytes))
  at_start bytes old stands = record { state = state.StartRecord; text = strip_bom bytes; stands = stands; between = refl; are = refl }

  -- the text behind a mark is told by its records, where it has no second mark
  plainly : (text : List ℕ) → starts_with_mark text ≡ false → told_of_text text ≡ told_of_records (records default_config text)
  plainly text plain = rw plain refl

  -- a second mark is no header
  pub opens_marked : (bytes : List ℕ) (fault : ReadError Field) → (fault ≡ error.Header) × (starts_with_mark (strip_bom bytes) ≡ true) → IsFaultOf (stream.Refused fault) (told_of bytes)
  opens_marked bytes fault is = rw (is.0, is.1) (refl, refl)

  module _ (bytes : List ℕ) (old new : RecordReader R) (fields : List (List ℕ)) (plain : starts_with_mark (strip_bom bytes) ≡ false) (stands : StandsAt rem old state.StartRecord (strip_bom bytes)) where
    pub opens_none : TakesOne rem (next_record default_config state.StartRecord [] [] (strip_bom bytes)) false fields new → IsFault error.Header (told_of bytes)
    opens_none took =
        fault_of error.Header [] (told_of bytes) (plainly (strip_bom bytes) plain ∙ ap told_of_records (none_left (records_left state.StartRecord (strip_bom bytes)) old new fields (at_start bytes old stands) took))

    pub opens : (columns : TradeColumns) → TakesOne rem (next_record default_config state.StartRecord [] [] (strip_bom bytes)) true fields new → trade_columns fields ≡ Ok columns
        → Tells rem new 2 (record { columns = columns; symbols = [] }) (told_of bytes)
    opens columns took read =
        let m = one_more (records_left state.StartRecord (strip_bom bytes)) old new fields (at_start bytes old stands) took in
        record { left = m.rest; has = m.has; is = plainly (strip_bom bytes) plain ∙ ap told_of_records m.records ∙ ap (told_under m.rest) read }

    pub opens_fault : (e : ReadError Field) → TakesOne rem (next_record default_config state.StartRecord [] [] (strip_bom bytes)) true fields new → trade_columns fields ≡ Err e
        → IsFaultOf (told_error e) (told_of bytes)
    opens_fault e took read =
        let m = one_more (records_left state.StartRecord (strip_bom bytes)) old new fields (at_start bytes old stands) took in
        fault_by e (trade_columns fields) (told_of bytes) (λ e is. fault_of e [] (told_of bytes) (plainly (strip_bom bytes) plain ∙ ap told_of_records m.records ∙ ap (told_under m.rest) is)) (refusal_is e (trade_columns fields) read)
