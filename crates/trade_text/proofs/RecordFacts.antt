-- The records of a text, one after the other: each takes at least a byte, so there are no more of them than bytes.
use Rattle.std.proofs.Common.{ℕ, zero, suc, ◌≡◌, ◌-◌, ◌+◌, ◌<◌, ◌≤◌, ◌==◌, ◌||◌, Bool, true, false, if◌then◌else◌, List, [], ◌∷◌, ◌++◌, length, Option, Some, None, refl, sym, ap, subst, ◌∙◌, arith}
use Rattle.std.proofs.lemmas.Bool.{false≢true}
use Rattle.csv.specs.Machine.{Read, after_end, ends_at_end, field_after, fields_after, in_field, is_end, next_record, start_field, start_record, step}
use Rattle.csv.specs.Reading.{default_config, records_from, records_next}
use Rattle.csv.specs.declared.parser.Action.{Action}
use Rattle.csv.specs.declared.parser.Action.TheVariants as action
use Rattle.csv.specs.declared.parser.State.{State}
use Rattle.csv.specs.declared.parser.State.TheVariants as state
use Rattle.csv.specs.declared.parser.Terminator.TheVariants as terminator
use Rattle.trade_text.specs.Records.{records_left}

-- ---- where a record ends

-- a step that ends a record leads between two records
abbrev EndsBetween : State × Action → Type 0
EndsBetween after = is_end after.1 ≡ true → ends_at_end after.0 ≡ false

ends-if : (test : Bool) (x y : State × Action) → EndsBetween x → EndsBetween y → EndsBetween (if test then x else y)
ends-if true x y first second = first
ends-if false x y first second = second

after_end-between : (test : Bool) → ends_at_end (if test then state.AfterCr else state.StartRecord) ≡ false
after_end-between true = refl
after_end-between false = refl

in_field-between : (c : ℕ) → EndsBetween (in_field default_config c)
in_field-between c =
    ends-if (c == 44) (state.StartField, action.EndField) (if (c == 13) || (c == 10) then (after_end terminator.CRLF c, action.EndRecord) else (state.InField, action.Copy))
    (λ e. absurd (false≢true e))
    (ends-if ((c == 13) || (c == 10)) (after_end terminator.CRLF c, action.EndRecord) (state.InField, action.Copy) (λ e. after_end-between (c == 13)) (λ e. absurd (false≢true e)))

start_field-between : (c : ℕ) → EndsBetween (start_field default_config c)
start_field-between c = ends-if (c == 34) (state.InQuoted, action.Skip) (in_field default_config c) (λ e. absurd (false≢true e)) (in_field-between c)

start_record-between : (c : ℕ) → EndsBetween (start_record default_config c)
start_record-between c =
    ends-if ((c == 13) || (c == 10)) (state.StartRecord, action.Skip) (start_field default_config c) (λ e. absurd (false≢true e)) (start_field-between c)

pub step-between : (s : State) (c : ℕ) → EndsBetween (step default_config s c)
step-between state.StartRecord c = start_record-between c
step-between state.StartField c = start_field-between c
step-between state.InField c = in_field-between c
step-between state.InQuoted c = ends-if (c == 34) (state.AfterQuote, action.Skip) (state.InQuoted, action.Copy) (λ e. absurd (false≢true e)) (λ e. absurd (false≢true e))
step-between state.AfterQuote c = ends-if (c == 34) (state.InQuoted, action.Copy) (in_field default_config c) (λ e. absurd (false≢true e)) (in_field-between c)
step-between state.InEscape c = λ e. absurd (false≢true e)
step-between state.InComment c = ends-if (c == 10) (state.StartRecord, action.Skip) (state.InComment, action.Skip) (λ e. absurd (false≢true e)) (λ e. absurd (false≢true e))
step-between state.AfterCr c = ends-if (c == 10) (state.StartRecord, action.Skip) (start_record default_config c) (λ e. absurd (false≢true e)) (start_record-between c)

-- ---- the next record

-- what is left after a record: it is shorter, and the reader stands between two records
abbrev pub IsAfter : ℕ → Option Read → Type 0
IsAfter len None = Unit {0}
IsAfter len (Some next) = (ends_at_end next.1 ≡ false) × (length next.2 ≤ len - 1)

at_end : (ends : Bool) (fields : List (List ℕ)) (field : List ℕ) → IsAfter 0 (if ends then Some (fields ++ (field ∷ []), state.StartRecord, []) else None)
at_end true fields field = (refl, omega arith)
at_end false fields field = tt

shorter : (len : ℕ) (next : Option Read) → IsAfter len next → IsAfter (suc len) next
shorter len None after = tt
shorter len (Some next) after = (after.0, omega (arith, after.1))

after_byte : (ends : Bool) (s : State) (c : ℕ) (rest : List ℕ) (fields : List (List ℕ)) (more : Option Read) → is_end (step default_config s c).1 ≡ ends → IsAfter (suc (length rest)) more
    → IsAfter (suc (length rest)) (if ends then Some (fields, (step default_config s c).0, rest) else more)
after_byte true s c rest fields more e later = (step-between s c e, omega arith)
after_byte false s c rest fields more e later = later

pub next_record-after : (s : State) (fields : List (List ℕ)) (field text : List ℕ) → IsAfter (length text) (next_record default_config s fields field text)
unfolding next_record
next_record-after s fields field [] = at_end (ends_at_end s) fields field
next_record-after s fields field (c ∷ rest) =
    let more = next_record default_config (step default_config s c).0 (fields_after (step default_config s c).1 fields field) (field_after (step default_config s c).1 c field) rest in
    after_byte (is_end (step default_config s c).1) s c rest (fields_after (step default_config s c).1 fields field) more refl
    (shorter (length rest) more (next_record-after (step default_config s c).0 (fields_after (step default_config s c).1 fields field) (field_after (step default_config s c).1 c field) rest))

next_record-none : (s : State) → ends_at_end s ≡ false → next_record default_config s [] [] [] ≡ None
unfolding next_record
next_record-none s between = rw between refl

-- ---- all records

-- more turns than bytes find the same records
enough : (m n : ℕ) (s : State) (text : List ℕ) → ends_at_end s ≡ false → length text < m → length text < n → records_from default_config m s text ≡ records_from default_config n s text
unfolding records_from
enough zero n s text between few few_too = absurd (omega arith)
enough (suc m) zero s text between few few_too = absurd (omega arith)
enough (suc m) (suc n) s [] between few few_too = rw (next_record-none s between) refl
enough (suc m) (suc n) s (c ∷ rest) between few few_too =
    both (next_record default_config s [] [] (c ∷ rest)) (next_record-after s [] [] (c ∷ rest)) (λ p after. enough m n p.1 p.2 after.0 (omega (arith, after.1)) (omega (arith, after.1)))
  where
    both : (next : Option Read) → IsAfter (suc (length rest)) next
        → ((p : Read) → (ends_at_end p.1 ≡ false) × (length p.2 ≤ suc (length rest) - 1) → records_from default_config m p.1 p.2 ≡ records_from default_config n p.1 p.2)
        → records_next (records_from default_config m) next ≡ records_next (records_from default_config n) next
    both None after same = refl
    both (Some p) after same = ap (λ records. p.0 ∷ records) (same p after)

first_left : (s : State) (text : List ℕ) → records_left s text ≡ records_next (records_from default_config (length text)) (next_record default_config s [] [] text)
unfolding records_from
first_left s text = ap (λ n. records_from default_config n s text) (suc_is (length text))
  where
    suc_is : (n : ℕ) → n + 1 ≡ suc n
    suc_is n = omega arith

rest_left : (s : State) (text : List ℕ) (p : Read) → ends_at_end s ≡ false → next_record default_config s [] [] text ≡ Some p
    → (ends_at_end p.1 ≡ false) × (length p.2 ≤ length text - 1) → records_from default_config (length text) p.1 p.2 ≡ records_left p.1 p.2
rest_left s [] p between found after = let none : None ≡ Some p = sym (next_record-none s between) ∙ found in absurd (cc)
rest_left s (c ∷ rest) p between found after = enough (suc (length rest)) (length p.2 + 1) p.1 p.2 after.0 (omega (arith, after.1)) (omega arith)

-- the records that are left where there is one more
pub records_left-more : (s : State) (text : List ℕ) (p : Read) → ends_at_end s ≡ false → next_record default_config s [] [] text ≡ Some p
    → (records_left s text ≡ p.0 ∷ records_left p.1 p.2) × (ends_at_end p.1 ≡ false)
records_left-more s text p between found =
    let after : (ends_at_end p.1 ≡ false) × (length p.2 ≤ length text - 1) = subst (IsAfter (length text)) found (next_record-after s [] [] text) in
    (first_left s text ∙ ap (records_next (records_from default_config (length text))) found ∙ ap (λ records. p.0 ∷ records) (rest_left s text p between found after), after.0)

-- and where there is none
pub records_left-none : (s : State) (text : List ℕ) → next_record default_config s [] [] text ≡ None → records_left s text ≡ []
records_left-none s text none = first_left s text ∙ ap (records_next (records_from default_config (length text))) none
