-- One byte more of what comes over a reader.
use Rattle.std.proofs.Common.{ℕ, ◌≡◌, ◌+◌, ◌<◌, ◌≤◌, Bool, true, false, if◌then◌else◌, List, [], ◌∷◌, ◌++◌, Option, Some, None, drop, length, length-append, append_assoc, refl, sym, ap, subst, ◌∙◌, arith, append-nil}
use Rattle.std.specs.Io.KnownBytes.{prepend_known}
use Rattle.std.specs.Prelude.{Result, Ok, Err, IfErr, IfOk}
use Rattle.csv.specs.Machine.{ends_at_end, field_after, fields_after, is_end, next_record, step}
use Rattle.csv.specs.Reading.{default_config, is_bom, strip_bom}
use Rattle.csv.specs.declared.parser.State.{State}
use Rattle.csv.specs.declared.parser.State.TheVariants as state
use Rattle.trade_text.specs.Records.{starts_with_mark}
use Rattle.trade_text.specs.RecordStates.{state_of}
use Rattle.trade_text.specs.StreamRecords.{GivesByte, MeetsBound, StandsAt, TakesByte, TakesEnd, TakesOne, bytes_left, next_bytes}
use Rattle.trade_text.specs.declared.error.StreamError.{StreamError}
use Rattle.trade_text.specs.declared.error.StreamError.TheVariants as stream
use Rattle.trade_text.specs.declared.record_parser.RecordParser.{RecordParser}
use Rattle.trade_text.specs.declared.record_reader.RecordReader.{RecordReader}
use Rattle.trade_text.specs.declared.stream_bytes.StreamBytes.{StreamBytes}

-- ---- the front that is looked at for two marks

-- this front was read of a text, in so many turns: it is shorter only where nothing is left
pub record IsFront (text front : List ℕ) (after : Option (List ℕ)) (turns : ℕ) : Type 0 where
  pub rest : List ℕ
  pub known : after ≡ Some rest
  pub whole : text ≡ front ++ rest
  pub short : length front ≤ turns
  pub full : length front < turns → rest ≡ []

-- a list of six
six : (P : List ℕ → Type 0) → ((a b c d e f : ℕ) → P (a ∷ b ∷ c ∷ d ∷ e ∷ f ∷ [])) → (xs : List ℕ) → length xs ≡ 6 → P xs
six P of [] is = absurd (omega arith)
six P of (a ∷ []) is = absurd (omega arith)
six P of (a ∷ b ∷ []) is = absurd (omega arith)
six P of (a ∷ b ∷ c ∷ []) is = absurd (omega arith)
six P of (a ∷ b ∷ c ∷ d ∷ []) is = absurd (omega arith)
six P of (a ∷ b ∷ c ∷ d ∷ e ∷ []) is = absurd (omega arith)
six P of (a ∷ b ∷ c ∷ d ∷ e ∷ f ∷ []) is = of a b c d e f
six P of (a ∷ b ∷ c ∷ d ∷ e ∷ f ∷ g ∷ xs) is = absurd (omega arith)

-- what a front tells of the marks of the whole text
pub record TellsMarks (front rest : List ℕ) : Type 0 where
  pub stripped : strip_bom (front ++ rest) ≡ strip_bom front ++ rest
  pub marked : starts_with_mark (strip_bom (front ++ rest)) ≡ starts_with_mark (strip_bom front)

six_tell : (rest : List ℕ) (a b c d e f : ℕ) → TellsMarks (a ∷ b ∷ c ∷ d ∷ e ∷ f ∷ []) rest
unfolding strip_bom
six_tell rest a b c d e f = let t = by (is_bom a b c) in record { stripped = t.0; marked = t.1 }
  where
    by : (mark : Bool) → ((if mark then d ∷ e ∷ f ∷ rest else a ∷ b ∷ c ∷ d ∷ e ∷ f ∷ rest) ≡ (if mark then d ∷ e ∷ f ∷ [] else a ∷ b ∷ c ∷ d ∷ e ∷ f ∷ []) ++ rest)
        × (starts_with_mark (if mark then d ∷ e ∷ f ∷ rest else a ∷ b ∷ c ∷ d ∷ e ∷ f ∷ rest) ≡ starts_with_mark (if mark then d ∷ e ∷ f ∷ [] else a ∷ b ∷ c ∷ d ∷ e ∷ f ∷ []))
    by true = (refl, refl)
    by false = (refl, refl)

module _ (text front : List ℕ) (after : Option (List ℕ)) (turns : ℕ) (f : IsFront text front after turns) where
  -- one byte more
  pub front_grows : (byte : ℕ) (new : Option (List ℕ)) → GivesByte f.rest (Some byte) new → IsFront text (front ++ byte ∷ []) new (turns + 1)
  front_grows byte new gives = record {
    rest = gives.0;
    known = gives.2;
    whole = f.whole ∙ ap (λ rest. front ++ rest) gives.1 ∙ sym (append_assoc front (byte ∷ []) gives.0);
    short = omega (arith, f.short, length-append front (byte ∷ []));
    full = λ few.
        let nothing = f.full (omega (arith, few, length-append front (byte ∷ []))) in
        let z : byte ∷ gives.0 ≡ [] = sym gives.1 ∙ nothing in
        cc;
  }

  -- or none
  pub front_ends : (new : Option (List ℕ)) → GivesByte f.rest None new → IsFront text front new (turns + 1)
  front_ends new gives = record { rest = []; known = gives.1; whole = f.whole ∙ ap (λ rest. front ++ rest) gives.0; short = omega (arith, f.short); full = λ few. refl }

  tells_marks : turns ≡ 6 → TellsMarks front f.rest
  tells_marks all = by f.rest f.full
    where
      by : (rest : List ℕ) → (length front < turns → rest ≡ []) → TellsMarks front rest
      by [] full = record { stripped = ap strip_bom (append-nil front) ∙ sym (append-nil (strip_bom front)); marked = ap (λ t. starts_with_mark (strip_bom t)) (append-nil front) }
      by (c ∷ rest) full =
          let enough : ¬ (length front < turns) = λ few. let z : c ∷ rest ≡ [] = full few in cc in
          six (λ xs. TellsMarks xs (c ∷ rest)) (six_tell (c ∷ rest)) front (omega (arith, f.short, all, enough))

  -- the text behind the mark, where the front was looked at whole
  pub opened : turns ≡ 6 → (at : ℕ) → drop at front ≡ strip_bom front → prepend_known (drop at front) after ≡ Some (strip_bom text)
  opened all at mark = rw (mark, f.known, f.whole) (ap Some (sym (tells_marks all).stripped))

  pub marked_alike : turns ≡ 6 → starts_with_mark (strip_bom text) ≡ starts_with_mark (strip_bom front)
  marked_alike all = rw f.whole (tells_marks all).marked

-- ---- one step of the machine

module _ (s : State) (c : ℕ) (rest : List ℕ) where
  pub step_on : (fields : List (List ℕ)) (field : List ℕ) → is_end (step default_config s c).1 ≡ false → next_record default_config s fields field (c ∷ rest)
      ≡ next_record default_config (step default_config s c).0 (fields_after (step default_config s c).1 fields field) (field_after (step default_config s c).1 c field) rest
  unfolding next_record
  step_on fields field on = rw on refl

  pub step_ends : (fields : List (List ℕ)) (field : List ℕ) → is_end (step default_config s c).1 ≡ true
      → next_record default_config s fields field (c ∷ rest) ≡ Some (fields_after (step default_config s c).1 fields field, (step default_config s c).0, rest)
  unfolding next_record
  step_ends fields field ends = rw ends refl

  count_on : is_end (step default_config s c).1 ≡ false → next_bytes s (c ∷ rest) ≡ next_bytes (step default_config s c).0 rest + 1
  unfolding next_bytes
  count_on on = rw on refl

  count_ends : is_end (step default_config s c).1 ≡ true → next_bytes s (c ∷ rest) ≡ 1
  unfolding next_bytes
  count_ends ends = rw ends refl

  -- where there is a byte, it counts
  count_some : 1 ≤ next_bytes s (c ∷ rest)
  count_some = by (is_end (step default_config s c).1) refl
    where
      by : (ends : Bool) → is_end (step default_config s c).1 ≡ ends → 1 ≤ next_bytes s (c ∷ rest)
      by true ends = rw (count_ends ends) (omega arith)
      by false on = rw (count_on on) (omega arith)

no_bytes : (s : State) → next_bytes s [] ≡ 0
unfolding next_bytes
no_bytes s = refl

pub text_ends : (s : State) (fields : List (List ℕ)) (field : List ℕ) → ends_at_end s ≡ true → next_record default_config s fields field [] ≡ Some (fields ++ field ∷ [], state.StartRecord, [])
unfolding next_record
text_ends s fields field ends = rw ends refl

pub text_leaves : (s : State) (fields : List (List ℕ)) (field : List ℕ) → ends_at_end s ≡ false → next_record default_config s fields field [] ≡ None
unfolding next_record
text_leaves s fields field leaves = rw leaves refl

-- ---- a record

module _ {R : Type 0} (rem : R → Option (List ℕ)) where
  -- so many bytes of the next record of a text were taken, and these are its fields so far
  pub record IsReading (s : State) (text : List ℕ) (bytes : StreamBytes R) (parser : RecordParser) (fields : List (List ℕ)) (taken : ℕ) : Type 0 where
    pub rest : List ℕ
    pub left : bytes_left rem bytes ≡ Some rest
    pub same : next_record default_config s [] [] text ≡ next_record default_config (state_of parser.state) fields parser.field.items rest
    pub count : next_bytes s text ≡ taken + next_bytes (state_of parser.state) rest

  -- a record was read of so many bytes, or there is none
  pub record IsRead (s : State) (text : List ℕ) (bytes : StreamBytes R) (parser : RecordParser) (found : Bool) (fields : List (List ℕ)) (taken : ℕ) : Type 0 where
    pub takes : TakesOne rem (next_record default_config s [] [] text) found fields (record { bytes = bytes; parser = parser })
    pub count : next_bytes s text ≡ taken

  pub begins : (s : State) (text : List ℕ) (records : RecordReader R) (parser : RecordParser) (fields : List (List ℕ)) → StandsAt rem records s text → parser.state ≡ records.parser.state → parser.field.items ≡ [] → fields ≡ []
      → IsReading s text records.bytes parser fields 0
  begins s text records parser fields stands place none empty = record {
    rest = text;
    left = stands.left;
    same = rw (place, stands.at, none, empty) refl;
    count = rw (place, stands.at) (omega arith);
  }

  module _ (s : State) (text : List ℕ) (old : StreamBytes R) (parser : RecordParser) (fields : List (List ℕ)) (taken : ℕ) (r : IsReading s text old parser fields taken) (bytes : StreamBytes R) (new : RecordParser) (now : List (List ℕ)) where
    -- a byte that doesn't end the record
    pub goes_on : (byte : ℕ) → GivesByte r.rest (Some byte) (bytes_left rem bytes) → TakesByte parser fields byte false new now → IsReading s text bytes new now (taken + 1)
    goes_on byte gives t = record {
      rest = gives.0;
      left = gives.2;
      same = rw (t.state, t.so_far, t.at_hand) (r.same ∙ ap (next_record default_config (state_of parser.state) fields parser.field.items) gives.1 ∙ step_on (state_of parser.state) byte gives.0 fields parser.field.items (sym t.ends));
      count =
          let more = r.count ∙ ap (λ rest. taken + next_bytes (state_of parser.state) rest) gives.1 ∙ ap (λ n. taken + n) (count_on (state_of parser.state) byte gives.0 (sym t.ends)) in
          rw t.state (omega (arith, more));
    }

    -- a byte that ends it
    pub ends : (byte : ℕ) → GivesByte r.rest (Some byte) (bytes_left rem bytes) → TakesByte parser fields byte true new now → IsRead s text bytes new true now (taken + 1)
    ends byte gives t = record {
      takes = subst (λ found. TakesOne rem found true now (record { bytes = bytes; parser = new }))
          (sym (r.same ∙ ap (next_record default_config (state_of parser.state) fields parser.field.items) gives.1 ∙ step_ends (state_of parser.state) byte gives.0 fields parser.field.items (sym t.ends)))
          (refl, t.so_far, record { left = gives.2; at = t.state });
      count = r.count ∙ ap (λ rest. taken + next_bytes (state_of parser.state) rest) gives.1 ∙ ap (λ n. taken + n) (count_ends (state_of parser.state) byte gives.0 (sym t.ends));
    }

    -- the end of the text
    pub ends_with_text : (found : Bool) → GivesByte r.rest None (bytes_left rem bytes) → TakesEnd parser fields found new now → IsRead s text bytes new found now taken
    ends_with_text found gives t = record {
      takes = by found t;
      count =
          let all = r.count ∙ ap (λ rest. taken + next_bytes (state_of parser.state) rest) gives.0 ∙ ap (λ n. taken + n) (no_bytes (state_of parser.state)) in
          omega (arith, all);
    }
      where
        by : (found : Bool) → TakesEnd parser fields found new now → TakesOne rem (next_record default_config s [] [] text) found now (record { bytes = bytes; parser = new })
        by true t = subst (λ next. TakesOne rem next true now (record { bytes = bytes; parser = new }))
            (sym (r.same ∙ ap (next_record default_config (state_of parser.state) fields parser.field.items) gives.0 ∙ text_ends (state_of parser.state) fields parser.field.items t.0))
            (refl, t.1, record { left = gives.1; at = t.2 })
        by false t = subst (λ next. TakesOne rem next false now (record { bytes = bytes; parser = new }))
            (sym (r.same ∙ ap (next_record default_config (state_of parser.state) fields parser.field.items) gives.0 ∙ text_leaves (state_of parser.state) fields parser.field.items t))
            refl

    -- one byte more, and the record is longer than what was taken
    pub is_longer : (byte : ℕ) → GivesByte r.rest (Some byte) (bytes_left rem bytes) → taken < next_bytes s text
    is_longer byte gives =
        let some = count_some (state_of parser.state) byte gives.0 in
        let all = r.count ∙ ap (λ rest. taken + next_bytes (state_of parser.state) rest) gives.1 in
        omega (arith, some, all)

    pub end_takes : (result : Result Bool StreamError) → GivesByte r.rest None (bytes_left rem bytes) → IfOk result (λ found. TakesEnd parser fields found new now)
        → IfOk result (λ found. TakesOne rem (next_record default_config s [] [] text) found now (record { bytes = bytes; parser = new }))
    end_takes (Ok found) gives t = (ends_with_text found gives t).takes
    end_takes (Err e) gives t = tt

    pub end_meets : (result : Result Bool StreamError) (number : ℕ) → taken ≤ 16777216 → GivesByte r.rest None (bytes_left rem bytes) → IfOk result (λ found. TakesEnd parser fields found new now)
        → IfErr result (λ e. e ≡ stream.OutOfMemory) → MeetsBound result number (next_bytes s text)
    end_meets (Ok found) number few gives t failed = rw (ends_with_text found gives t).count few
    end_meets (Err e) number few gives t failed = rw failed tt
