-- A byte more of trades that are parsed from bytes that are pushed.
use Rattle.std.proofs.Common.{ℕ, zero, suc, ◌≡◌, ◌+◌, ◌≤◌, ◌<◌, ◌==◌, ◌&&◌, Bool, true, false, List, [], ◌∷◌, ◌++◌, if◌then◌else◌, length, take, Option, Some, None, Ok, Err, get_or, Result, OnOk, inl, inr, ◌⊎◌, refl, sym, ap, subst, ◌∙◌, arith}
use Rattle.std.proofs.lemmas.Bool.{false≢true}
use Rattle.std.proofs.lemmas.Bool.Decides.{nat_tests}
use Rattle.csv.specs.Machine.{Read as Found, ends_at_end, next_record, step}
use Rattle.csv.specs.Reading.{default_config, strip_bom}
use Rattle.csv.specs.Records.{fields_of}
use Rattle.csv.specs.declared.parser.State.{State}
use Rattle.csv.specs.declared.parser.State.TheVariants as state
use Rattle.trade_stream.specs.Pushed.{AtFront, AtRecord, IsReady, IsUnmarked, LeavesFront, TellsLast, TakesMark, TellsOn, Took, front_text, has_header, is_front, is_of_mark, mark_bytes, next_behind, at_start, standing_after, standing_in, standing_of, standing_on, stands_behind, stands_by, told_behind, told_by_header, told_by_trade, told_found, told_in}
use Rattle.trade_text.specs.Records.{records_left, starts_with_mark}
use Rattle.trade_text.specs.StreamRecords.{TakesByte, TakesEnd}
use Rattle.trade_text.specs.RecordStates.{state_of}
use Rattle.trade_text.specs.Streams.{IsFaultOf, Told, no_more, told_from, told_of, told_of_records, told_of_text}
use Rattle.trade_text.specs.declared.error.ReadError.TheVariants as error
use Rattle.trade_text.specs.declared.error.StreamError.{StreamError}
use Rattle.trade_text.specs.declared.error.StreamError.TheVariants as stream
use Rattle.tuple_edge.specs.declared.row.Row.{Row}
use Rattle.trade_stream.specs.declared.parsing.Parsing.{Parsing}
use Rattle.trade_text.specs.declared.record_parser.RecordParser.{RecordParser}
use Rattle.trade_text.specs.declared.record_state.RecordState.{RecordState}
use Rattle.trade_text.specs.declared.record_state.RecordState.TheVariants as record_state
use Rattle.trade_stream.specs.declared.stage.Stage.{Stage}
use Rattle.trade_stream.specs.declared.stage.Stage.TheVariants as stage
use Rattle.trade_text.specs.declared.trade_file.TradeForm.{TradeForm}
use mathlib.Core.List.{IsPrefix}
use Rattle.trade_stream.proofs.Growing.{known_by_trade}
use Rattle.trade_text.proofs.Marks.{strip_bom-plain}
use Rattle.trade_text.proofs.RecordFacts.{records_left-more, records_left-none, step-between}
use Rattle.trade_text.proofs.StreamFacts.{step_ends, step_on, text_ends, text_leaves}

-- ---- records by the next one

-- records of which the first is the header
told_records : (text : List ℕ) (next : Option Found) → next_record default_config state.StartRecord [] [] text ≡ next → told_of_records (records_left state.StartRecord text) ≡ told_by_header next
told_records text None is = ap told_of_records (records_left-none state.StartRecord text is)
told_records text (Some p) is = ap told_of_records (records_left-more state.StartRecord text p refl is).0

-- a text without a mark
pub text_by_header : (text : List ℕ) → starts_with_mark text ≡ false → told_of_text text ≡ told_by_header (next_record default_config state.StartRecord [] [] text)
text_by_header text plain = rw plain (told_records text (next_record default_config state.StartRecord [] [] text) refl)

pub of_by_header : (text : List ℕ) → starts_with_mark text ≡ false → told_of text ≡ told_by_header (next_record default_config state.StartRecord [] [] text)
of_by_header text plain = ap told_of_text (strip_bom-plain text plain) ∙ text_by_header text plain

-- records of trades
trade_records : (s : State) (text : List ℕ) (number : ℕ) (form : TradeForm) (next : Option Found) → ends_at_end s ≡ false → next_record default_config s [] [] text ≡ next
    → told_from number form (records_left s text) ≡ told_by_trade number form next
trade_records s text number form None between is = ap (told_from number form) (records_left-none s text is)
trade_records s text number form (Some p) between is = ap (told_from number form) (records_left-more s text p between is).0

pub from_by_trade : (s : State) (text : List ℕ) (number : ℕ) (form : TradeForm) → ends_at_end s ≡ false
    → told_from number form (records_left s text) ≡ told_by_trade number form (next_record default_config s [] [] text)
from_by_trade s text number form between = trade_records s text number form (next_record default_config s [] [] text) between refl

-- ---- stages

pub in_found : (s : Stage) (p : Parsing) (rest : List ℕ) → is_front s ≡ false → told_in s p rest ≡ told_found s p.number p.form (next_behind p rest)
in_found stage.Start p rest e = absurd (false≢true (sym e))
in_found stage.Marked p rest e = absurd (false≢true (sym e))
in_found stage.Header p rest e = refl
in_found stage.Trades p rest e = refl

pub on_behind : (s : Stage) (p : Parsing) (rest : List ℕ) → is_front s ≡ false → standing_in s p rest ≡ stands_behind (standing_of p) rest
on_behind stage.Start p rest e = absurd (false≢true (sym e))
on_behind stage.Marked p rest e = absurd (false≢true (sym e))
on_behind stage.Header p rest e = refl
on_behind stage.Trades p rest e = refl

-- ---- the mark at the front

-- where the machine stands behind the front of a mark
abbrev pub after_front : ℕ → State
after_front zero = state.StartRecord
after_front (suc n) = state.InField

-- the machine takes the front of a mark as that of a field
pub front_in_field : (count : ℕ) (rest : List ℕ) → count ≤ 2
    → next_record default_config state.StartRecord [] [] (take count mark_bytes ++ rest) ≡ next_record default_config (after_front count) [] (take count mark_bytes) rest
unfolding next_record
front_in_field zero rest few = refl
front_in_field (suc zero) rest few = refl
front_in_field (suc (suc zero)) rest few = refl
front_in_field (suc (suc (suc n))) rest few = absurd (omega (arith, few))

pub front_leaves : (count : ℕ) (rest : List ℕ) → count ≤ 2
    → stands_behind at_start (take count mark_bytes ++ rest) ≡ stands_behind (record { state = after_front count; number = 1; bytes = count }) rest
unfolding stands_behind
front_leaves zero rest few = refl
front_leaves (suc zero) rest few = refl
front_leaves (suc (suc zero)) rest few = refl
front_leaves (suc (suc (suc n))) rest few = absurd (omega (arith, few))

-- a byte more of a mark
pub front_grows : (count byte : ℕ) (rest : List ℕ) → count ≤ 2 → (byte == get_or mark_bytes count 0) ≡ true
    → take count mark_bytes ++ byte ∷ rest ≡ take (count + 1) mark_bytes ++ rest
front_grows zero byte rest few same = let is : byte ≡ 0xEF = grind (arith, nat_tests) in ap (λ b. b ∷ rest) is
front_grows (suc zero) byte rest few same = let is : byte ≡ 0xBB = grind (arith, nat_tests) in ap (λ b. 0xEF ∷ b ∷ rest) is
front_grows (suc (suc zero)) byte rest few same = let is : byte ≡ 0xBF = grind (arith, nat_tests) in ap (λ b. 0xEF ∷ 0xBB ∷ b ∷ rest) is
front_grows (suc (suc (suc n))) byte rest few same = absurd (omega (arith, few))

-- another byte makes it no mark
pub front_stops : (count byte : ℕ) (rest : List ℕ) → count ≤ 2 → (byte == get_or mark_bytes count 0) ≡ false
    → starts_with_mark (take count mark_bytes ++ byte ∷ rest) ≡ false
front_stops zero byte [] few other = refl
front_stops zero byte (b ∷ []) few other = refl
front_stops zero byte (b ∷ c ∷ rest) few other = rw other refl
front_stops (suc zero) byte [] few other = refl
front_stops (suc zero) byte (c ∷ rest) few other = rw other refl
front_stops (suc (suc zero)) byte rest few other = rw other refl
front_stops (suc (suc (suc n))) byte rest few other = absurd (omega (arith, few))

-- a front of a mark is none
pub front_short : (count : ℕ) → count ≤ 2 → starts_with_mark (take count mark_bytes ++ []) ≡ false
front_short zero few = refl
front_short (suc zero) few = refl
front_short (suc (suc zero)) few = refl
front_short (suc (suc (suc n))) few = absurd (omega (arith, few))

both_hold : (a b : Bool) → (a && b) ≡ true → (a ≡ true) × (b ≡ true)
both_hold true b is = (refl, is)
both_hold false b is = absurd (false≢true is)

one_fails : (a b : Bool) → (a && b) ≡ false → a ≡ true → b ≡ false
one_fails true b is holds = is
one_fails false b is holds = absurd (false≢true holds)

-- a byte that is none of a mark
pub is_unmarked : (p : Parsing) (byte : ℕ) → IsReady p → is_of_mark p byte ≡ false → (rest : List ℕ) → IsUnmarked p (byte ∷ rest)
is_unmarked p byte ready other rest front = front_stops p.bytes byte rest (ready.front front).few (one_fails (is_front p.stage) (byte == get_or mark_bytes p.bytes 0) other front)

-- the end, at which no mark is whole
pub ends_unmarked : (p : Parsing) → IsReady p → IsUnmarked p []
ends_unmarked p ready front = front_short p.bytes (ready.front front).few

module _ (old new : Parsing) (byte : ℕ) (ready : IsReady old) (next : is_of_mark old byte ≡ true) (rest : List ℕ) where
  few : old.bytes ≤ 2
  few = (ready.front (both_hold (is_front old.stage) (byte == get_or mark_bytes old.bytes 0) next).0).few

  grows : front_text old (byte ∷ rest) ≡ take (old.bytes + 1) mark_bytes ++ rest
  grows = front_grows old.bytes byte rest few (both_hold (is_front old.stage) (byte == get_or mark_bytes old.bytes 0) next).1

  -- a mark that isn't whole yet
  pub mark_goes_on : new.stage ≡ old.stage → new.bytes ≡ old.bytes + 1 → (told_behind old (byte ∷ rest) ≡ told_behind new rest) × (standing_on old (byte ∷ rest) ≡ standing_on new rest)
  mark_goes_on stage_is bytes_is = go old.stage refl
    where
      text : front_text old (byte ∷ rest) ≡ front_text new rest
      text = grows ∙ ap (λ n. take n mark_bytes ++ rest) (sym bytes_is)

      go : (s : Stage) → old.stage ≡ s → (told_behind old (byte ∷ rest) ≡ told_behind new rest) × (standing_on old (byte ∷ rest) ≡ standing_on new rest)
      go stage.Start is = (
        ap (λ s. told_in s old (byte ∷ rest)) is ∙ ap told_of text ∙ ap (λ s. told_in s new rest) (sym (stage_is ∙ is)),
        ap (λ s. standing_in s old (byte ∷ rest)) is ∙ ap standing_after text ∙ ap (λ s. standing_in s new rest) (sym (stage_is ∙ is)),
      )
      go stage.Marked is = (
        ap (λ s. told_in s old (byte ∷ rest)) is ∙ ap told_of_text text ∙ ap (λ s. told_in s new rest) (sym (stage_is ∙ is)),
        ap (λ s. standing_in s old (byte ∷ rest)) is ∙ ap (stands_behind at_start) text ∙ ap (λ s. standing_in s new rest) (sym (stage_is ∙ is)),
      )
      go stage.Header is = absurd (false≢true (ap is_front (sym is) ∙ (both_hold (is_front old.stage) (byte == get_or mark_bytes old.bytes 0) next).0))
      go stage.Trades is = absurd (false≢true (ap is_front (sym is) ∙ (both_hold (is_front old.stage) (byte == get_or mark_bytes old.bytes 0) next).0))

  whole : old.bytes ≡ 2 → front_text old (byte ∷ rest) ≡ 0xEF ∷ 0xBB ∷ 0xBF ∷ rest
  whole two = grows ∙ ap (λ n. take (n + 1) mark_bytes ++ rest) two

  -- the first mark is dropped
  pub mark_dropped : old.stage ≡ stage.Start → old.bytes ≡ 2 → new.stage ≡ stage.Marked → new.bytes ≡ 0 → (told_behind old (byte ∷ rest) ≡ told_behind new rest) × (standing_on old (byte ∷ rest) ≡ standing_on new rest)
  unfolding strip_bom
  mark_dropped start two marked none = (
    ap (λ s. told_in s old (byte ∷ rest)) start ∙ ap told_of (whole two) ∙ ap (λ n. told_of_text (take n mark_bytes ++ rest)) (sym none) ∙ ap (λ s. told_in s new rest) (sym marked),
    ap (λ s. standing_in s old (byte ∷ rest)) start ∙ ap standing_after (whole two) ∙ ap (λ n. stands_behind at_start (take n mark_bytes ++ rest)) (sym none) ∙ ap (λ s. standing_in s new rest) (sym marked),
  )

  -- the second one is no header
  pub mark_refused : old.stage ≡ stage.Marked → old.bytes ≡ 2 → IsFaultOf (stream.Refused error.Header) (told_behind old (byte ∷ rest))
  mark_refused marked two =
      let told : told_behind old (byte ∷ rest) ≡ no_more (Some error.Header) [] = ap (λ s. told_in s old (byte ∷ rest)) marked ∙ ap told_of_text (whole two) in
      (ap (λ (t : Told). t.rows) told, ap (λ (t : Told). t.fault) told)

module _ (old : Parsing) (byte : ℕ) (ready : IsReady old) (next : is_of_mark old byte ≡ true) where
  -- a byte of a mark that isn't whole yet
  pub takes_front : old.bytes + 1 < 3 → Took old (byte ∷ []) (record old { bytes = old.bytes + 1 })
  takes_front some = record {
    ready = record {
      partial = ready.partial;
      known = ready.known;
      within = omega (arith, some);
      front = λ front. let at = ready.front front in record { few = omega (arith, some); state = at.state; field = at.field; fields = at.fields };
      new = ready.new;
      first = ready.first;
    };
    told = λ rest. (mark_goes_on old (record old { bytes = old.bytes + 1 }) byte ready next rest refl refl).0;
    standing = λ rest. (mark_goes_on old (record old { bytes = old.bytes + 1 }) byte ready next rest refl refl).1;
    form = refl;
  }

  -- the last byte of the first mark
  pub drops_mark : (old.stage ≡ stage.Start) ⊎ ((old.stage ≡ stage.Header) ⊎ (old.stage ≡ stage.Trades)) → 3 ≤ old.bytes + 1 → Took old (byte ∷ []) (record old { stage = stage.Marked; bytes = 0 })
  drops_mark is all = record {
    ready = record {
      partial = ready.partial;
      known = ready.known;
      within = omega arith;
      front = λ _. record { few = omega arith; state = at.state; field = at.field; fields = at.fields };
      new = λ _. ready.new (ap has_header start);
      first = λ _. ready.first (ap has_header start);
    };
    told = λ rest. (mark_dropped old marked byte ready next rest start two refl refl).0;
    standing = λ rest. (mark_dropped old marked byte ready next rest start two refl refl).1;
    form = refl;
  }
    where
      marked : Parsing
      marked = record old { stage = stage.Marked; bytes = 0 }

      front : is_front old.stage ≡ true
      front = (both_hold (is_front old.stage) (byte == get_or mark_bytes old.bytes 0) next).0

      at : AtFront old
      at = ready.front front

      two : old.bytes ≡ 2
      two = omega (arith, at.few, all)

      start_of : (old.stage ≡ stage.Start) ⊎ ((old.stage ≡ stage.Header) ⊎ (old.stage ≡ stage.Trades)) → old.stage ≡ stage.Start
      start_of (inl is) = is
      start_of (inr (inl is)) = absurd (false≢true (ap is_front (sym is) ∙ front))
      start_of (inr (inr is)) = absurd (false≢true (ap is_front (sym is) ∙ front))

      start : old.stage ≡ stage.Start
      start = start_of is

-- the front of a mark becomes that of the header
module _ (old new : Parsing) (front : AtFront old) (state_is : state_of new.record.state ≡ after_front old.bytes) (field_is : new.record.field.items ≡ take old.bytes mark_bytes) (fields_are : fields_of new.fields ≡ []) where
  next_is : (rest : List ℕ) → next_record default_config state.StartRecord [] [] (front_text old rest) ≡ next_behind new rest
  next_is rest = front_in_field old.bytes rest front.few ∙ rw (state_is, field_is, fields_are) refl

  stands : new.number ≡ 1 → new.bytes ≡ old.bytes → (rest : List ℕ) → stands_behind at_start (front_text old rest) ≡ stands_behind (standing_of new) rest
  stands number_is bytes_is rest = front_leaves old.bytes rest front.few ∙ rw (state_is, number_is, bytes_is) refl

  pub front_left : is_front old.stage ≡ true → new.stage ≡ stage.Header → new.number ≡ 1 → new.bytes ≡ old.bytes → (rest : List ℕ) → IsUnmarked old rest
      → (told_behind old rest ≡ told_behind new rest) × (standing_on old rest ≡ standing_on new rest)
  front_left at header number_is bytes_is rest unmarked = go old.stage refl at
    where
      plain : starts_with_mark (front_text old rest) ≡ false
      plain = unmarked at

      go : (s : Stage) → old.stage ≡ s → is_front s ≡ true → (told_behind old rest ≡ told_behind new rest) × (standing_on old rest ≡ standing_on new rest)
      go stage.Start is at = (
        ap (λ s. told_in s old rest) is ∙ of_by_header (front_text old rest) plain ∙ ap told_by_header (next_is rest) ∙ ap (λ s. told_in s new rest) (sym header),
        ap (λ s. standing_in s old rest) is ∙ ap (stands_behind at_start) (strip_bom-plain (front_text old rest) plain) ∙ stands number_is bytes_is rest ∙ ap (λ s. standing_in s new rest) (sym header),
      )
      go stage.Marked is at = (
        ap (λ s. told_in s old rest) is ∙ text_by_header (front_text old rest) plain ∙ ap told_by_header (next_is rest) ∙ ap (λ s. told_in s new rest) (sym header),
        ap (λ s. standing_in s old rest) is ∙ stands number_is bytes_is rest ∙ ap (λ s. standing_in s new rest) (sym header),
      )
      go stage.Header is at = absurd (false≢true at)
      go stage.Trades is at = absurd (false≢true at)

pub fronts : (s : Stage) → (s ≡ stage.Start) ⊎ (s ≡ stage.Marked) → is_front s ≡ true
fronts s (inl is) = ap is_front is
fronts s (inr is) = ap is_front is

no_header : (s : Stage) → is_front s ≡ true → has_header s ≡ false
no_header stage.Start front = refl
no_header stage.Marked front = refl
no_header stage.Header front = refl
no_header stage.Trades front = absurd (false≢true front)

-- where a record stands that begins with the front of a mark
begun_at : (count : ℕ) (old new : RecordState) → count ≤ 2 → old ≡ record_state.StartRecord → (take count mark_bytes ≡ [] → new ≡ old) → (0 < length (take count mark_bytes) → new ≡ record_state.InField)
    → state_of new ≡ after_front count
begun_at zero old new few start nothing some = ap state_of (nothing refl ∙ start)
begun_at (suc zero) old new few start nothing some = ap state_of (some (omega arith))
begun_at (suc (suc zero)) old new few start nothing some = ap state_of (some (omega arith))
begun_at (suc (suc (suc n))) old new few start nothing some = absurd (omega (arith, few))

pub leaves_front : (old : Parsing) (begun : RecordParser) → IsReady old → is_front old.stage ≡ true → begun.field.items ≡ take old.bytes mark_bytes
    → (take old.bytes mark_bytes ≡ [] → begun.state ≡ old.record.state) → (0 < length (take old.bytes mark_bytes) → begun.state ≡ record_state.InField)
    → LeavesFront old (record old { stage = stage.Header; «record» = begun })
leaves_front old begun ready front field_is nothing some = record {
  ready = record { partial = ready.partial; known = ready.known; within = ready.within; front = λ none. absurd (false≢true none); new = λ _. ready.new none; first = λ _. ready.first none };
  left = refl;
  told = λ rest unmarked. (front_left old new at state_is field_is at.fields front refl (ready.first none) refl rest unmarked).0;
  standing = λ rest unmarked. (front_left old new at state_is field_is at.fields front refl (ready.first none) refl rest unmarked).1;
  form = refl;
  number = refl;
  bytes = refl;
}
  where
    new : Parsing
    new = record old { stage = stage.Header; «record» = begun }

    none : has_header old.stage ≡ false
    none = no_header old.stage front

    at : AtFront old
    at = ready.front front

    state_is : state_of begun.state ≡ after_front old.bytes
    state_is = begun_at old.bytes old.record.state begun.state at.few at.state nothing some

-- ---- one byte

-- what a byte that doesn't end a record leaves
pub found_on : (old : Parsing) (byte : ℕ) (new : Parsing) (rest : List ℕ) → TakesByte old.record (fields_of old.fields) byte false new.record (fields_of new.fields)
    → next_behind old (byte ∷ rest) ≡ next_behind new rest
found_on old byte new rest t = step_on (state_of old.record.state) byte rest (fields_of old.fields) old.record.field.items (sym t.ends) ∙ rw (t.state, t.so_far, t.at_hand) refl

-- what one that ends a record leaves
pub found_ends : (old : Parsing) (byte : ℕ) (new : Parsing) (rest : List ℕ) → TakesByte old.record (fields_of old.fields) byte true new.record (fields_of new.fields)
    → next_behind old (byte ∷ rest) ≡ Some (fields_of new.fields, state_of new.record.state, rest)
found_ends old byte new rest t = step_ends (state_of old.record.state) byte rest (fields_of old.fields) old.record.field.items (sym t.ends) ∙ rw (t.state, t.so_far) refl

pub ends_between : (old : Parsing) (fields now : List (List ℕ)) (byte : ℕ) (new : Parsing) → TakesByte old.record fields byte true new.record now → ends_at_end (state_of new.record.state) ≡ false
ends_between old fields now byte new t = rw t.state (step-between (state_of old.record.state) byte (sym t.ends))

-- where a byte leads
by_byte : (old : Parsing) (fields now : List (List ℕ)) (byte : ℕ) (ended : Bool) (new : RecordParser) → TakesByte old.record fields byte ended new now
    → stands_by (standing_of old) (step default_config (state_of old.record.state) byte)
    ≡ record { state = state_of new.state; number = if ended then old.number + 1 else old.number; bytes = if ended then 0 else old.bytes + 1 }
by_byte old fields now byte ended new t = rw (← t.ends, ← t.state) refl

-- a byte that doesn't end a record changes what is held of it alone
pub pushed_on : (old new : Parsing) (byte : ℕ) → is_front old.stage ≡ false → TakesByte old.record (fields_of old.fields) byte false new.record (fields_of new.fields)
    → new.stage ≡ old.stage → new.number ≡ old.number → new.bytes ≡ old.bytes + 1 → new.form ≡ old.form → (rest : List ℕ)
    → (told_behind old (byte ∷ rest) ≡ told_behind new rest) × (standing_on old (byte ∷ rest) ≡ standing_on new rest)
unfolding stands_behind
pushed_on old new byte left t stage_is number_is bytes_is form_is rest =
    let new_left : is_front new.stage ≡ false = ap is_front stage_is ∙ left in
    let stands : stands_by (standing_of old) (step default_config (state_of old.record.state) byte) ≡ standing_of new =
    by_byte old (fields_of old.fields) (fields_of new.fields) byte false new.record t ∙ rw (number_is, bytes_is) refl in (
      in_found old.stage old (byte ∷ rest) left ∙ ap (told_found old.stage old.number old.form) (found_on old byte new rest t)
          ∙ ap (λ s. told_found s old.number old.form (next_behind new rest)) (sym stage_is) ∙ ap (λ n. told_found new.stage n old.form (next_behind new rest)) (sym number_is)
          ∙ ap (λ f. told_found new.stage new.number f (next_behind new rest)) (sym form_is) ∙ sym (in_found new.stage new rest new_left),
      on_behind old.stage old (byte ∷ rest) left ∙ ap (λ s. stands_behind s rest) stands ∙ sym (on_behind new.stage new rest new_left),
    )

-- one that does makes it the next record
pub pushed_ends : (old : Parsing) (byte : ℕ) (new : Parsing) → is_front old.stage ≡ false → TakesByte old.record (fields_of old.fields) byte true new.record (fields_of new.fields)
    → (rest : List ℕ) → (told_behind old (byte ∷ rest) ≡ told_found old.stage old.number old.form (Some (fields_of new.fields, state_of new.record.state, rest)))
    × (standing_on old (byte ∷ rest) ≡ stands_behind (record { state = state_of new.record.state; number = old.number + 1; bytes = 0 }) rest)
unfolding stands_behind
pushed_ends old byte new left t rest = (
  in_found old.stage old (byte ∷ rest) left ∙ ap (told_found old.stage old.number old.form) (found_ends old byte new rest t),
  on_behind old.stage old (byte ∷ rest) left ∙ ap (λ s. stands_behind s rest) (by_byte old (fields_of old.fields) (fields_of new.fields) byte true new.record t),
)

-- at the start of a record
pub at_record : (old new : Parsing) → AtRecord old new → (rest : List ℕ)
    → (told_behind new rest ≡ told_by_trade new.number new.form (next_record default_config (state_of old.record.state) [] [] rest))
    × (standing_on new rest ≡ stands_behind (record { state = state_of old.record.state; number = new.number; bytes = 0 }) rest)
at_record old new at rest = (
  ap (λ s. told_in s new rest) at.stage ∙ ap (told_by_trade new.number new.form) (rw (at.state, at.field, at.fields) refl),
  ap (λ s. standing_in s new rest) at.stage ∙ rw (at.state, at.bytes) refl,
)

-- ---- the end

-- no record is left at the end between two
pub found_last : (old : Parsing) (new : Parsing) → TakesEnd old.record (fields_of old.fields) true new.record (fields_of new.fields) → next_behind old [] ≡ Some (fields_of new.fields, state.StartRecord, [])
found_last old new t = text_ends (state_of old.record.state) (fields_of old.fields) old.record.field.items t.0 ∙ ap (λ fs. Some (fs, state.StartRecord, [])) (sym t.1)

pub found_none : (old : Parsing) → ends_at_end (state_of old.record.state) ≡ false → next_behind old [] ≡ None
found_none old between = text_leaves (state_of old.record.state) (fields_of old.fields) old.record.field.items between

pub no_record : next_record default_config state.StartRecord [] [] [] ≡ None
no_record = text_leaves state.StartRecord [] [] refl

-- ---- what is left to be told between two records

rows_by_header : (p : Parsing) → ends_at_end (state_of p.record.state) ≡ false → (told_by_header (next_behind p [])).rows ≡ []
rows_by_header p between = ap (λ next. (told_by_header next).rows) (found_none p between)

rows_by_trade : (p : Parsing) → ends_at_end (state_of p.record.state) ≡ false → (told_by_trade p.number p.form (next_behind p [])).rows ≡ []
rows_by_trade p between = ap (λ next. (told_by_trade p.number p.form next).rows) (found_none p between)

-- of the front of a mark
rows_by_front : (count : ℕ) → count ≤ 2 → ends_at_end (stands_behind at_start (take count mark_bytes ++ [])).state ≡ false → (told_by_header (next_record default_config state.StartRecord [] [] (take count mark_bytes ++ []))).rows ≡ []
unfolding stands_behind
rows_by_front zero few between = ap (λ next. (told_by_header next).rows) no_record
rows_by_front (suc zero) few between = absurd (false≢true (sym between))
rows_by_front (suc (suc zero)) few between = absurd (false≢true (sym between))
rows_by_front (suc (suc (suc n))) few between = absurd (omega (arith, few))

pub nothing_left : (p : Parsing) → IsReady p → ends_at_end (standing_on p []).state ≡ false → (told_behind p []).rows ≡ []
unfolding stands_behind
nothing_left p ready between = go p.stage refl between
  where
    go : (s : Stage) → p.stage ≡ s → ends_at_end (standing_in s p []).state ≡ false → (told_in s p []).rows ≡ []
    go stage.Start is between =
        let few = (ready.front (ap is_front is)).few in
        let plain = front_short p.bytes few in
        ap (λ (t : Told). t.rows) (of_by_header (front_text p []) plain)
        ∙ rows_by_front p.bytes few (ap (λ text. ends_at_end (stands_behind at_start text).state) (sym (strip_bom-plain (front_text p []) plain)) ∙ between)
    go stage.Marked is between =
        let few = (ready.front (ap is_front is)).few in
        ap (λ (t : Told). t.rows) (text_by_header (front_text p []) (front_short p.bytes few)) ∙ rows_by_front p.bytes few between
    go stage.Header is between = rows_by_header p between
    go stage.Trades is between = rows_by_trade p between

-- where no byte more of a record may come, it isn't the front of a mark
pub stands_here : (p : Parsing) → IsReady p → 16777216 ≤ p.bytes → standing_on p [] ≡ standing_of p
unfolding stands_behind
stands_here p ready long = go p.stage refl
  where
    go : (s : Stage) → p.stage ≡ s → standing_in s p [] ≡ standing_of p
    go stage.Start is = let few = (ready.front (ap is_front is)).few in absurd (omega (arith, few, long))
    go stage.Marked is = let few = (ready.front (ap is_front is)).few in absurd (omega (arith, few, long))
    go stage.Header is = refl
    go stage.Trades is = refl

-- the symbols that are known come first of those that are told
pub known_told : (p : Parsing) → IsReady p → (rest : List ℕ) → IsPrefix p.form.symbols (told_behind p rest).symbols
known_told p ready rest = go p.stage refl
  where
    none : (told : Told) → p.form.symbols ≡ [] → IsPrefix p.form.symbols told.symbols
    none told is = (told.symbols, ap (λ (names : List (List ℕ)). names ++ told.symbols) is)

    go : (s : Stage) → p.stage ≡ s → IsPrefix p.form.symbols (told_in s p rest).symbols
    go stage.Start is = none (told_in stage.Start p rest) (ready.new (ap has_header is))
    go stage.Marked is = none (told_in stage.Marked p rest) (ready.new (ap has_header is))
    go stage.Header is = none (told_in stage.Header p rest) (ready.new (ap has_header is))
    go stage.Trades is = known_by_trade p.number p.form (next_behind p rest)

-- ---- what calls tell

-- what was to be told before, and what is to be told now, in other words
pub tells_as : (result : Result (Option Row) StreamError) (before now told left : Told) → before ≡ told → now ≡ left → TellsOn result told left → TellsOn result before now
tells_as result before now told left first last tells = subst (λ t. TellsOn result t now) (sym first) (subst (TellsOn result told) (sym last) tells)

-- at the end nothing is to be told behind the last record
pub tells_last : (result : Result (Option Row) StreamError) (before told : Told) (symbols : List (List ℕ)) → before ≡ told → TellsOn result told (no_more None symbols) → TellsLast result before symbols
tells_last (Ok None) before told symbols first tells = first ∙ tells
tells_last (Ok (Some row)) before told symbols first tells = first ∙ tells
tells_last (Err e) before told symbols first tells = subst (IsFaultOf e) (sym first) tells

-- a byte that ends no record
pub pushes_on : (old same left new : Parsing) (byte : ℕ) → TakesMark false old byte same → LeavesFront same left → TakesByte left.record (fields_of left.fields) byte false new.record (fields_of new.fields)
    → new.stage ≡ left.stage → new.number ≡ left.number → new.bytes ≡ left.bytes + 1 → new.form ≡ left.form → (rest : List ℕ)
    → (told_behind old (byte ∷ rest) ≡ told_behind new rest) × (standing_on old (byte ∷ rest) ≡ standing_on new rest)
pushes_on old same left new byte mark leaves t stage_is number_is bytes_is form_is rest =
    let l = subst (λ (p : Parsing). LeavesFront p left) mark.0 leaves in
    let on = pushed_on left new byte l.left t stage_is number_is bytes_is form_is rest in
    (l.told (byte ∷ rest) (mark.1 rest) ∙ on.0, l.standing (byte ∷ rest) (mark.1 rest) ∙ on.1)

-- what is told at the start of the next record, if a call got there
at_next : (result : Result (Option Row) StreamError) (told : Told) (ended new : Parsing) (rest : List ℕ) → OnOk result (AtRecord ended new)
    → TellsOn result told (told_by_trade new.number new.form (next_record default_config (state_of ended.record.state) [] [] rest)) → TellsOn result told (told_behind new rest)
at_next (Ok row) told ended new rest at tells = subst (TellsOn (Ok row) told) (sym (at_record ended new at rest).0) tells
at_next (Err e) told ended new rest at tells = tells

module _ (old same left ended new : Parsing) (byte : ℕ) (result : Result (Option Row) StreamError) (mark : TakesMark false old byte same) (leaves : LeavesFront same left)
    (t : TakesByte left.record (fields_of left.fields) byte true ended.record (fields_of ended.fields)) (stage_is : ended.stage ≡ left.stage) (number_is : ended.number ≡ left.number) (form_is : ended.form ≡ left.form) where
  l : LeavesFront old left
  l = subst (λ (p : Parsing). LeavesFront p left) mark.0 leaves

  before_is : (rest : List ℕ) → told_behind old (byte ∷ rest) ≡ told_found ended.stage ended.number ended.form (Some (fields_of ended.fields, state_of ended.record.state, rest))
  before_is rest = l.told (byte ∷ rest) (mark.1 rest) ∙ (pushed_ends left byte ended l.left t rest).0 ∙ rw (stage_is, number_is, form_is) refl

  -- a byte that ends a record, which was taken
  pub pushes_end : OnOk result (AtRecord ended new)
      → ((s : State) (text : List ℕ) → ends_at_end s ≡ false
      → TellsOn result (told_found ended.stage ended.number ended.form (Some (fields_of ended.fields, s, text))) (told_by_trade new.number new.form (next_record default_config s [] [] text)))
      → (rest : List ℕ) → TellsOn result (told_behind old (byte ∷ rest)) (told_behind new rest)
  pushes_end at tells rest =
      subst (λ (told : Told). TellsOn result told (told_behind new rest)) (sym (before_is rest))
      (at_next result _ ended new rest at (tells (state_of ended.record.state) rest (ends_between left (fields_of left.fields) (fields_of ended.fields) byte ended t)))

  stands_next : AtRecord ended new → new.number ≡ ended.number + 1 → (rest : List ℕ) → standing_on old (byte ∷ rest) ≡ standing_on new rest
  stands_next at more rest =
      l.standing (byte ∷ rest) (mark.1 rest) ∙ (pushed_ends left byte ended l.left t rest).1
      ∙ ap (λ n. stands_behind (record { state = state_of ended.record.state; number = n; bytes = 0 }) rest) (ap (λ n. n + 1) (sym number_is) ∙ sym more) ∙ sym (at_record ended new at rest).1

  pub stands_end : OnOk result (AtRecord ended new) → OnOk result (new.number ≡ ended.number + 1) → OnOk result ((rest : List ℕ) → standing_on old (byte ∷ rest) ≡ standing_on new rest)
  stands_end at more = go result at more
    where
      go : (result : Result (Option Row) StreamError) → OnOk result (AtRecord ended new) → OnOk result (new.number ≡ ended.number + 1) → OnOk result ((rest : List ℕ) → standing_on old (byte ∷ rest) ≡ standing_on new rest)
      go (Ok row) at more = stands_next at more
      go (Err e) at more = tt

-- ---- what the end tells

module _ (old left ended : Parsing) (ready : IsReady old) (leaves : LeavesFront old left) where
  by_found : told_behind old [] ≡ told_found left.stage left.number left.form (next_behind left [])
  by_found = leaves.told [] (ends_unmarked old ready) ∙ in_found left.stage left [] leaves.left

  -- the end of a record
  pub ends_record : (new : Parsing) (result : Result (Option Row) StreamError) → TakesEnd left.record (fields_of left.fields) true ended.record (fields_of ended.fields)
      → ended.stage ≡ left.stage → ended.number ≡ left.number → ended.form ≡ left.form
      → ((s : State) (text : List ℕ) → ends_at_end s ≡ false
      → TellsOn result (told_found ended.stage ended.number ended.form (Some (fields_of ended.fields, s, text))) (told_by_trade new.number new.form (next_record default_config s [] [] text)))
      → TellsLast result (told_behind old []) new.form.symbols
  ends_record new result t stage_is number_is form_is tells =
      tells_last result (told_behind old []) _ new.form.symbols
      (by_found ∙ ap (told_found left.stage left.number left.form) (found_last left ended t) ∙ rw (stage_is, number_is, form_is) refl)
      (subst (λ next. TellsOn result (told_found ended.stage ended.number ended.form (Some (fields_of ended.fields, state.StartRecord, []))) (told_by_trade new.number new.form next)) no_record (tells state.StartRecord [] refl))

  none_by : ends_at_end (state_of left.record.state) ≡ false → told_behind old [] ≡ told_found left.stage left.number left.form None
  none_by between = by_found ∙ ap (told_found left.stage left.number left.form) (found_none left between)

  -- the end behind the last trade
  pub ends_trades : ends_at_end (state_of left.record.state) ≡ false → left.stage ≡ stage.Trades → told_behind old [] ≡ no_more None left.form.symbols
  ends_trades between is = none_by between ∙ ap (λ s. told_found s left.number left.form None) is

  -- the end before a header
  pub ends_early : ends_at_end (state_of left.record.state) ≡ false → (left.stage ≡ stage.Start) ⊎ ((left.stage ≡ stage.Marked) ⊎ (left.stage ≡ stage.Header))
      → ((told_behind old []).rows ≡ []) × ((told_behind old []).fault ≡ Some error.Header)
  ends_early between is = let told = none_by between ∙ early is in (ap (λ (t : Told). t.rows) told, ap (λ (t : Told). t.fault) told)
    where
      early : (left.stage ≡ stage.Start) ⊎ ((left.stage ≡ stage.Marked) ⊎ (left.stage ≡ stage.Header)) → told_found left.stage left.number left.form None ≡ no_more (Some error.Header) []
      early (inl is) = ap (λ s. told_found s left.number left.form None) is
      early (inr (inl is)) = ap (λ s. told_found s left.number left.form None) is
      early (inr (inr is)) = ap (λ s. told_found s left.number left.form None) is
