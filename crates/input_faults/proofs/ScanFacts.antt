-- What csv's machine leaves of a text doesn't depend on the fields that it has at hand.
use Rattle.std.proofs.Common.{ℕ, suc, ◌≡◌, ◌+◌, ◌-◌, ◌<◌, Bool, true, false, List, [], ◌∷◌, ◌++◌, length, Option, Some, None, if◌then◌else◌, refl, sym, ap, ◌∙◌, arith, length-append}
use Rattle.std.proofs.lemmas.Bool.{false≢true}
use Rattle.csv.specs.Machine.{Read, ends_at_end, field_after, fields_after, is_end, next_record, step}
use Rattle.csv.specs.Reading.{default_config}
use Rattle.csv.specs.declared.parser.Action.{Action}
use Rattle.csv.specs.declared.parser.Action.TheVariants as action
use Rattle.csv.specs.declared.parser.State.{State}
use Rattle.csv.specs.declared.parser.State.TheVariants as state
use Rattle.text_words.specs.Lines.{is_end_byte}
use Rattle.trade_text.specs.RecordStates.{action_of, csv_step, is_field_end, state_of}
use Rattle.trade_text.specs.declared.record_state.RecordAction.{RecordAction}
use Rattle.trade_text.specs.declared.record_state.RecordState.{RecordState}
use Rattle.input_faults.specs.Records.{Left, behind_field, behind_fields, behind_records, drop_ends, field_len, fields_read, left_by, left_of}

-- ---- steps

ends_as : (machine : State × Action) (next : RecordState) (does : RecordAction) → csv_step (next, does) ≡ machine → is_end machine.1 ≡ is_end (action_of does)
ends_as machine next does steps = ap (λ (m : State × Action). is_end m.1) (sym steps)

field_ends_as : (machine : State × Action) (next : RecordState) (does : RecordAction) → csv_step (next, does) ≡ machine → is_field_end machine.1 ≡ is_field_end (action_of does)
field_ends_as machine next does steps = ap (λ (m : State × Action). is_field_end m.1) (sym steps)

state_as : (machine : State × Action) (next : RecordState) (does : RecordAction) → csv_step (next, does) ≡ machine → machine.0 ≡ state_of next
state_as machine next does steps = ap (λ (m : State × Action). m.0) (sym steps)

-- ---- behind a record

at_end : (ends : Bool) (f g : List (List ℕ)) → left_by (if ends then Some (f, state.StartRecord, []) else None) ≡ left_by (if ends then Some (g, state.StartRecord, []) else None)
at_end true f g = refl
at_end false f g = refl

at_byte : (ends : Bool) (f g : List (List ℕ)) (s : State) (rest : List ℕ) (x y : Option Read) → left_by x ≡ left_by y
    → left_by (if ends then Some (f, s, rest) else x) ≡ left_by (if ends then Some (g, s, rest) else y)
at_byte true f g s rest x y same = refl
at_byte false f g s rest x y same = same

pub left-same : (s : State) (f g : List (List ℕ)) (p q text : List ℕ) → left_by (next_record default_config s f p text) ≡ left_by (next_record default_config s g q text)
unfolding next_record
left-same s f g p q [] = at_end (ends_at_end s) (f ++ (p ∷ [])) (g ++ (q ∷ []))
left-same s f g p q (c ∷ rest) =
    let a = (step default_config s c).1 in
    let to = (step default_config s c).0 in
    at_byte (is_end a) (fields_after a f p) (fields_after a g q) to rest
    (next_record default_config to (fields_after a f p) (field_after a c p) rest) (next_record default_config to (fields_after a g q) (field_after a c q) rest)
    (left-same to (fields_after a f p) (fields_after a g q) (field_after a c p) (field_after a c q) rest)

pub left_none : (s : State) → left_by (next_record default_config s [] [] []) ≡ record { state = state.StartRecord; text = [] }
unfolding next_record
left_none s = go (ends_at_end s)
  where
    go : (ends : Bool) → left_by (if ends then Some ([] ++ ([] ∷ []), state.StartRecord, []) else None) ≡ record { state = state.StartRecord; text = [] }
    go true = refl
    go false = refl

pub left_ends : (s : State) (c : ℕ) (rest : List ℕ) → is_end (step default_config s c).1 ≡ true
    → left_by (next_record default_config s [] [] (c ∷ rest)) ≡ record { state = (step default_config s c).0; text = rest }
unfolding next_record
left_ends s c rest ends = rw ends refl

pub left_goes : (s : State) (c : ℕ) (rest : List ℕ) → is_end (step default_config s c).1 ≡ false
    → left_by (next_record default_config s [] [] (c ∷ rest)) ≡ left_by (next_record default_config (step default_config s c).0 [] [] rest)
unfolding next_record
left_goes s c rest goes =
    let a = (step default_config s c).1 in
    let to = (step default_config s c).0 in
    rw goes (left-same to (fields_after a [] []) [] (field_after a c []) [] rest)

-- ---- in the words of a scan

-- a byte that ends the record, as the scan sees it
pub scan_ends : (at next : RecordState) (does : RecordAction) (text : List ℕ) (c : ℕ) (rest : List ℕ) → text ≡ c ∷ rest → csv_step (next, does) ≡ step default_config (state_of at) c → is_end (action_of does) ≡ true
    → left_by (next_record default_config (state_of at) [] [] text) ≡ left_of next rest
scan_ends at next does text c rest is steps ends =
    ap (λ t. left_by (next_record default_config (state_of at) [] [] t)) is
    ∙ left_ends (state_of at) c rest (ends_as (step default_config (state_of at) c) next does steps ∙ ends)
    ∙ ap (λ s. record { state = s; text = rest }) (state_as (step default_config (state_of at) c) next does steps)

pub scan_goes : (at next : RecordState) (does : RecordAction) (text : List ℕ) (c : ℕ) (rest : List ℕ) → text ≡ c ∷ rest → csv_step (next, does) ≡ step default_config (state_of at) c → is_end (action_of does) ≡ false
    → left_by (next_record default_config (state_of at) [] [] text) ≡ left_by (next_record default_config (state_of next) [] [] rest)
scan_goes at next does text c rest is steps goes =
    ap (λ t. left_by (next_record default_config (state_of at) [] [] t)) is
    ∙ left_goes (state_of at) c rest (ends_as (step default_config (state_of at) c) next does steps ∙ goes)
    ∙ ap (λ s. left_by (next_record default_config s [] [] rest)) (state_as (step default_config (state_of at) c) next does steps)

-- ---- so many records or fields

pub behind_records-none : (left : Left) → behind_records 0 left ≡ left
unfolding behind_records
behind_records-none left = refl

behind_records-suc : (n : ℕ) (left : Left) → behind_records (suc n) left ≡ behind_records n (left_by (next_record default_config left.state [] [] left.text))
unfolding behind_records
behind_records-suc n left = refl

pub behind_records-more : (n : ℕ) (left : Left) → 0 < n → behind_records n left ≡ behind_records (n - 1) (left_by (next_record default_config left.state [] [] left.text))
behind_records-more n left some = ap (λ k. behind_records k left) (let e : n ≡ suc (n - 1) = omega (arith, some) in e) ∙ behind_records-suc (n - 1) left

pub behind_fields-none : (left : Left) → behind_fields 0 left ≡ left
unfolding behind_fields
behind_fields-none left = refl

behind_fields-suc : (n : ℕ) (left : Left) → behind_fields (suc n) left ≡ behind_fields n (behind_field left.state left.text)
unfolding behind_fields
behind_fields-suc n left = refl

pub behind_fields-more : (n : ℕ) (left : Left) → 0 < n → behind_fields n left ≡ behind_fields (n - 1) (behind_field left.state left.text)
behind_fields-more n left some = ap (λ k. behind_fields k left) (let e : n ≡ suc (n - 1) = omega (arith, some) in e) ∙ behind_fields-suc (n - 1) left

-- ---- a field

field_at_end : (s : State) (c : ℕ) (rest : List ℕ) → is_field_end (step default_config s c).1 ≡ true → behind_field s (c ∷ rest) ≡ record { state = (step default_config s c).0; text = rest }
unfolding behind_field
field_at_end s c rest ends = rw ends refl

field_goes : (s : State) (c : ℕ) (rest : List ℕ) → is_field_end (step default_config s c).1 ≡ false → behind_field s (c ∷ rest) ≡ behind_field (step default_config s c).0 rest
unfolding behind_field
field_goes s c rest goes = rw goes refl

pub behind_field-none : (s : State) → behind_field s [] ≡ record { state = s; text = [] }
unfolding behind_field
behind_field-none s = refl

pub behind_field-ends : (at next : RecordState) (does : RecordAction) (text : List ℕ) (c : ℕ) (rest : List ℕ) → text ≡ c ∷ rest → csv_step (next, does) ≡ step default_config (state_of at) c → is_field_end (action_of does) ≡ true
    → behind_field (state_of at) text ≡ left_of next rest
behind_field-ends at next does text c rest is steps ends =
    ap (λ t. behind_field (state_of at) t) is
    ∙ field_at_end (state_of at) c rest (field_ends_as (step default_config (state_of at) c) next does steps ∙ ends)
    ∙ ap (λ s. record { state = s; text = rest }) (state_as (step default_config (state_of at) c) next does steps)

pub behind_field-goes : (at next : RecordState) (does : RecordAction) (text : List ℕ) (c : ℕ) (rest : List ℕ) → text ≡ c ∷ rest → csv_step (next, does) ≡ step default_config (state_of at) c → is_field_end (action_of does) ≡ false
    → behind_field (state_of at) text ≡ behind_field (state_of next) rest
behind_field-goes at next does text c rest is steps goes =
    ap (λ t. behind_field (state_of at) t) is
    ∙ field_goes (state_of at) c rest (field_ends_as (step default_config (state_of at) c) next does steps ∙ goes)
    ∙ ap (λ s. behind_field s rest) (state_as (step default_config (state_of at) c) next does steps)

len_at_end : (s : State) (c : ℕ) (rest : List ℕ) → is_field_end (step default_config s c).1 ≡ true → field_len s (c ∷ rest) ≡ 0
unfolding field_len
len_at_end s c rest ends = rw ends refl

len_goes : (s : State) (c : ℕ) (rest : List ℕ) → is_field_end (step default_config s c).1 ≡ false → field_len s (c ∷ rest) ≡ field_len (step default_config s c).0 rest + 1
unfolding field_len
len_goes s c rest goes = rw goes refl

pub field_len-none : (s : State) → field_len s [] ≡ 0
unfolding field_len
field_len-none s = refl

pub field_len-ends : (at next : RecordState) (does : RecordAction) (text : List ℕ) (c : ℕ) (rest : List ℕ) → text ≡ c ∷ rest → csv_step (next, does) ≡ step default_config (state_of at) c → is_field_end (action_of does) ≡ true
    → field_len (state_of at) text ≡ 0
field_len-ends at next does text c rest is steps ends =
    ap (λ t. field_len (state_of at) t) is ∙ len_at_end (state_of at) c rest (field_ends_as (step default_config (state_of at) c) next does steps ∙ ends)

pub field_len-goes : (at next : RecordState) (does : RecordAction) (text : List ℕ) (c : ℕ) (rest : List ℕ) → text ≡ c ∷ rest → csv_step (next, does) ≡ step default_config (state_of at) c → is_field_end (action_of does) ≡ false
    → field_len (state_of at) text ≡ field_len (state_of next) rest + 1
field_len-goes at next does text c rest is steps goes =
    ap (λ t. field_len (state_of at) t) is
    ∙ len_goes (state_of at) c rest (field_ends_as (step default_config (state_of at) c) next does steps ∙ goes)
    ∙ ap (λ s. field_len s rest + 1) (state_as (step default_config (state_of at) c) next does steps)

-- ---- how many fields a record has

abbrev pub counted : State → List (List ℕ) → List ℕ → List ℕ → ℕ
counted s fields field text = length (fields_read (next_record default_config s fields field text))

-- so many fields are ended, and the record has as many as it has from here on
abbrev pub IsCounted : ℕ → RecordState → List ℕ → ℕ → Type 0
IsCounted ended at rest all = (fields : List (List ℕ)) × (field : List ℕ) × (length fields ≡ ended) × (counted (state_of at) fields field rest ≡ all)

pub counted_start : (text : List ℕ) (at : RecordState) → state_of at ≡ state.StartRecord → IsCounted 0 at text (counted state.StartRecord [] [] text)
counted_start text at is = ([], [], refl, ap (λ s. counted s [] [] text) is)

count_at_end : (s : State) (f : List (List ℕ)) (p : List ℕ) (c : ℕ) (rest : List ℕ) (a : Action) → (step default_config s c).1 ≡ a → is_end a ≡ true → counted s f p (c ∷ rest) ≡ length f + 1
unfolding next_record
count_at_end s f p c rest action.EndRecord is ends = rw is (length-append f (p ∷ []))
count_at_end s f p c rest action.Skip is ends = absurd (false≢true ends)
count_at_end s f p c rest action.Copy is ends = absurd (false≢true ends)
count_at_end s f p c rest action.EndField is ends = absurd (false≢true ends)

count_goes : (s : State) (f : List (List ℕ)) (p : List ℕ) (c : ℕ) (rest : List ℕ) → is_end (step default_config s c).1 ≡ false
    → counted s f p (c ∷ rest) ≡ counted (step default_config s c).0 (fields_after (step default_config s c).1 f p) (field_after (step default_config s c).1 c p) rest
unfolding next_record
count_goes s f p c rest goes = rw goes refl

fields_grow : (a : Action) (f : List (List ℕ)) (p : List ℕ) → is_field_end a ≡ true → length (fields_after a f p) ≡ length f + 1
fields_grow action.EndField f p ends = length-append f (p ∷ [])
fields_grow action.EndRecord f p ends = length-append f (p ∷ [])
fields_grow action.Skip f p ends = absurd (false≢true ends)
fields_grow action.Copy f p ends = absurd (false≢true ends)

fields_stay : (a : Action) (f : List (List ℕ)) (p : List ℕ) → is_field_end a ≡ false → length (fields_after a f p) ≡ length f
fields_stay action.Skip f p goes = refl
fields_stay action.Copy f p goes = refl
fields_stay action.EndField f p goes = absurd (false≢true (sym goes))
fields_stay action.EndRecord f p goes = absurd (false≢true (sym goes))

pub counted_ends : (ended : ℕ) (at next : RecordState) (does : RecordAction) (text : List ℕ) (c : ℕ) (rest : List ℕ) (all : ℕ) → text ≡ c ∷ rest
    → csv_step (next, does) ≡ step default_config (state_of at) c → is_end (action_of does) ≡ true → IsCounted ended at text all → ended + 1 ≡ all
counted_ends ended at next does text c rest all is steps ends (f, p, count, value) =
    let here = count_at_end (state_of at) f p c rest (step default_config (state_of at) c).1 refl (ends_as (step default_config (state_of at) c) next does steps ∙ ends) in
    ap (λ n. n + 1) (sym count) ∙ sym here ∙ ap (counted (state_of at) f p) (sym is) ∙ value

pub counted_field : (ended : ℕ) (at next : RecordState) (does : RecordAction) (text : List ℕ) (c : ℕ) (rest : List ℕ) (all : ℕ) → text ≡ c ∷ rest
    → csv_step (next, does) ≡ step default_config (state_of at) c → is_end (action_of does) ≡ false → is_field_end (action_of does) ≡ true → IsCounted ended at text all → IsCounted (ended + 1) next rest all
counted_field ended at next does text c rest all is steps goes ends (f, p, count, value) =
    let a = (step default_config (state_of at) c).1 in
    let more = count_goes (state_of at) f p c rest (ends_as (step default_config (state_of at) c) next does steps ∙ goes) in (
      fields_after a f p,
      field_after a c p,
      fields_grow a f p (field_ends_as (step default_config (state_of at) c) next does steps ∙ ends) ∙ ap (λ n. n + 1) count,
      ap (λ s. counted s (fields_after a f p) (field_after a c p) rest) (sym (state_as (step default_config (state_of at) c) next does steps)) ∙ sym more ∙ ap (counted (state_of at) f p) (sym is) ∙ value,
    )

pub counted_byte : (ended : ℕ) (at next : RecordState) (does : RecordAction) (text : List ℕ) (c : ℕ) (rest : List ℕ) (all : ℕ) → text ≡ c ∷ rest
    → csv_step (next, does) ≡ step default_config (state_of at) c → is_end (action_of does) ≡ false → is_field_end (action_of does) ≡ false → IsCounted ended at text all → IsCounted ended next rest all
counted_byte ended at next does text c rest all is steps goes stays (f, p, count, value) =
    let a = (step default_config (state_of at) c).1 in
    let more = count_goes (state_of at) f p c rest (ends_as (step default_config (state_of at) c) next does steps ∙ goes) in (
      fields_after a f p,
      field_after a c p,
      fields_stay a f p (field_ends_as (step default_config (state_of at) c) next does steps ∙ stays) ∙ count,
      ap (λ s. counted s (fields_after a f p) (field_after a c p) rest) (sym (state_as (step default_config (state_of at) c) next does steps)) ∙ sym more ∙ ap (counted (state_of at) f p) (sym is) ∙ value,
    )

pub counted_none : (ended : ℕ) (at : RecordState) (text : List ℕ) (all : ℕ) → text ≡ [] → ends_at_end (state_of at) ≡ false → IsCounted ended at text all → 0 ≡ all
unfolding next_record
counted_none ended at text all is between (f, p, count, value) =
    let none : counted (state_of at) f p [] ≡ 0 = rw between refl in
    sym none ∙ ap (counted (state_of at) f p) (sym is) ∙ value

pub counted_last : (ended : ℕ) (at : RecordState) (text : List ℕ) (all : ℕ) → text ≡ [] → ends_at_end (state_of at) ≡ true → IsCounted ended at text all → ended + 1 ≡ all
unfolding next_record
counted_last ended at text all is ends (f, p, count, value) =
    let last : counted (state_of at) f p [] ≡ length f + 1 = rw ends (length-append f (p ∷ [])) in
    ap (λ n. n + 1) (sym count) ∙ sym last ∙ ap (counted (state_of at) f p) (sym is) ∙ value

-- ---- ends of lines

pub drop_ends-none : drop_ends [] ≡ []
unfolding drop_ends
drop_ends-none = refl

pub drop_ends-skip : (b : ℕ) (bytes : List ℕ) → is_end_byte b ≡ true → drop_ends (b ∷ bytes) ≡ drop_ends bytes
unfolding drop_ends
drop_ends-skip b bytes ends = rw ends refl

pub drop_ends-stop : (b : ℕ) (bytes : List ℕ) → is_end_byte b ≡ false → drop_ends (b ∷ bytes) ≡ b ∷ bytes
unfolding drop_ends
drop_ends-stop b bytes none = rw none refl
