-- The records that are refused, one more of them, and how many of their lines are told.
use Rattle.std.proofs.Common.{ℕ, zero, suc, ◌≡◌, ◌+◌, ◌<◌, Bool, true, false, List, [], ◌∷◌, ◌++◌, length, take, drop, nat_lt, Option, Some, None, Ok, Err, codes, option_map, refl, sym, ap, ◌∙◌, arith, append_assoc, if◌then◌else◌}
use Rattle.std.specs.List.{flat_map}
use Rattle.std.specs.Option.{is_none}
use Rattle.std.specs.Prelude.{unwrap_or}
use Rattle.std.specs.Result.{is_ok}
use Rattle.std.proofs.lemmas.Bool.Decides.{nat_tests}
use Rattle.std.proofs.lemmas.Grind.{flat_map-append}
use Rattle.std.proofs.lemmas.List.{append-nil}
use Rattle.trade_text.specs.Cash.{cash_of}
use Rattle.trade_text.specs.Refusals.{IsRefusalOf}
use Rattle.trade_text.specs.Results.{Read}
use Rattle.trade_text.specs.Trades.{trades_of}
use Rattle.trade_text.specs.declared.error.CashField.{CashField}
use Rattle.trade_text.specs.declared.error.Field.{Field}
use Rattle.trade_text.specs.declared.error.ReadError.{ReadError}
use Rattle.trade_text.specs.declared.error.ReadError.TheVariants as error
use Rattle.record_faults.specs.EachRecord.{Refusal, cash_faults, fault_in, first_of, refusals, trade_faults}
use Rattle.record_faults.specs.Laws.{first_fault}
use Rattle.record_faults.proofs.First.{first_is}
use Rattle.csv.specs.Reading.{strip_bom}
use Rattle.csv.specs.Records.{field_at}
use Rattle.input_faults.specs.AllFaults.{AreTold, all_cash_faults, all_trades_faults, cash_head, cash_line, cash_line_at, cash_told, max_told, named, records_text, told_lines, trade_line, trade_line_at, trades_head, trades_told}
use Rattle.input_faults.specs.RecordFaults.{cash_line_in, trades_line_in}

-- ---- refusals

refused_so : {F A : Type 0} (e : ReadError F) (read : Read F A) → (e ≡ error.OutOfMemory → ⊥) → IsRefusalOf e read → read ≡ Err e
refused_so error.Header read other is = is
refused_so (error.Row number) read other is = is
refused_so (error.Field number what) read other is = is
refused_so (error.Range number what) read other is = is
refused_so error.TooMany read other is = is
refused_so (error.TooLong bytes) read other is = is
refused_so error.OutOfMemory read other is = absurd (other refl)

-- ---- one more

refusals_on : {F : Type 0} (number : ℕ) (faults : List (Option (ReadError F))) (fault : Option (ReadError F))
    → refusals number (faults ++ fault ∷ []) ≡ refusals number faults ++ refusals (number + length faults) (fault ∷ [])
refusals_on {F} number [] fault = ap (λ n. refusals {F = F} n (fault ∷ [])) (let e : number ≡ number + 0 = omega arith in e)
refusals_on {F} number (None ∷ faults) fault =
    refusals_on (number + 1) faults fault
    ∙ ap (λ n. refusals (number + 1) faults ++ refusals {F = F} n (fault ∷ [])) (let e : number + 1 + length faults ≡ number + suc (length faults) = omega arith in e)
refusals_on {F} number (Some first ∷ faults) fault =
    ap (λ rest. record { number = number; fault = first } ∷ rest)
    (refusals_on (number + 1) faults fault
    ∙ ap (λ n. refusals (number + 1) faults ++ refusals {F = F} n (fault ∷ [])) (let e : number + 1 + length faults ≡ number + suc (length faults) = omega arith in e))

-- a record that is accepted adds nothing
pub refusals_accepted : {F : Type 0} (number : ℕ) (faults : List (Option (ReadError F))) → refusals number (faults ++ None ∷ []) ≡ refusals number faults
refusals_accepted number faults = refusals_on number faults None ∙ append-nil (refusals number faults)

-- one that is refused comes last
pub refusals_refused : {F : Type 0} (number : ℕ) (faults : List (Option (ReadError F))) (fault : ReadError F)
    → refusals number (faults ++ Some fault ∷ []) ≡ refusals number faults ++ record { number = number + length faults; fault = fault } ∷ []
refusals_refused number faults fault = refusals_on number faults (Some fault)

-- ---- as far as they are told

never : (n : ℕ) → nat_lt (suc n) 0 ≡ false
never n = grind (arith, nat_tests)

always : (n : ℕ) → nat_lt 0 (suc n) ≡ true
always n = grind (arith, nat_tests)

take_none : {A : Type 0} (n : ℕ) → take {A = A} n [] ≡ []
take_none zero = refl
take_none (suc n) = refl

both_more : (m n : ℕ) → nat_lt m n ≡ nat_lt (suc m) (suc n)
both_more m n = grind (arith, nat_tests)

take_on : {A : Type 0} (n : ℕ) (xs : List A) (x : A) → take n (xs ++ x ∷ []) ≡ take n xs ++ (if nat_lt (length xs) n then x ∷ [] else [])
take_on zero [] x = refl
take_on zero (y ∷ xs) x = rw (never (length xs)) refl
take_on (suc n) [] x = rw (always n) (ap (λ more. x ∷ more) (take_none n))
take_on (suc n) (y ∷ xs) x = ap (λ more. y ∷ more) (take_on n xs x ∙ ap (λ b. take n xs ++ (if b then x ∷ [] else [])) (both_more (length xs) n))

one_line : {A : Type 0} (test : Bool) (f : A → List ℕ) (x : A) → flat_map f (if test then x ∷ [] else []) ≡ (if test then f x else [])
one_line true f x = append-nil (f x)
one_line false f x = refl

-- the line of one more is told where fewer than a thousand were
pub told_more : {F : Type 0} (line : Refusal F → List ℕ) (refused : List (Refusal F)) (next : Refusal F)
    → told_lines line (refused ++ next ∷ []) ≡ told_lines line refused ++ (if nat_lt (length refused) max_told then line next ++ codes "\n" else [])
told_more {F} line refused next =
    let f = λ (r : Refusal F). line r ++ codes "\n" in
    ap (flat_map f) (take_on 1000 refused next)
    ∙ flat_map-append f (take 1000 refused) (if nat_lt (length refused) 1000 then next ∷ [] else [])
    ∙ ap (λ more. flat_map f (take 1000 refused) ++ more) (one_line (nat_lt (length refused) 1000) f next)

pub one_longer : {A : Type 0} (xs : List A) (x : A) → length (xs ++ x ∷ []) ≡ length xs + 1
one_longer [] x = refl
one_longer (y ∷ xs) x = let more = one_longer xs x in omega (arith, more)

-- a record that is accepted
pub told_none : {F : Type 0} (line : Refusal F → List ℕ) (before : List (Option (ReadError F))) (text : List ℕ) (told : ℕ) → AreTold line before text told → AreTold line (before ++ None ∷ []) text told
told_none line before text told so_far =
    let same = refusals_accepted 2 before in
    record { text_is = so_far.text_is ∙ ap (told_lines line) (sym same); count_is = so_far.count_is ∙ ap length (sym same) }

-- one that is refused
pub told_some : {F : Type 0} (line : Refusal F → List ℕ) (before : List (Option (ReadError F))) (text after : List ℕ) (told number : ℕ) (fault : ReadError F) → number ≡ length before + 2
    → after ≡ text ++ (if nat_lt told max_told then line (record { number = number; fault = fault }) ++ codes "\n" else []) → AreTold line before text told
    → AreTold line (before ++ Some fault ∷ []) after (told + 1)
told_some line before text after told number fault numbered appended so_far =
    let at : number ≡ 2 + length before = omega (arith, numbered) in
    let next : Refusal _ = record { number = number; fault = fault } in
    let same : refusals 2 (before ++ Some fault ∷ []) ≡ refusals 2 before ++ next ∷ [] =
    refusals_refused 2 before fault ∙ ap (λ n. refusals 2 before ++ record { number = n; fault = fault } ∷ []) (sym at) in
    record {
      text_is = appended
          ∙ ap (λ n. text ++ (if nat_lt n max_told then line next ++ codes "\n" else [])) so_far.count_is
          ∙ ap (λ t. t ++ (if nat_lt (length (refusals 2 before)) max_told then line next ++ codes "\n" else [])) so_far.text_is
          ∙ sym (told_more line (refusals 2 before) next) ∙ ap (told_lines line) (sym same);
      count_is = ap (λ n. n + 1) so_far.count_is ∙ sym (one_longer (refusals 2 before) next) ∙ ap length (sym same);
    }

-- ---- nothing is said where the bytes are accepted

none_told : {F : Type 0} (name : List ℕ) (line : Refusal F → List ℕ) (number : ℕ) (faults : List (Option (ReadError F)))
    → is_none (records_text name line (refusals number faults)) ≡ is_none (first_of faults)
none_told name line number [] = refl
none_told name line number (None ∷ faults) = none_told name line (number + 1) faults
none_told name line number (Some fault ∷ faults) = refl

accepted_is : {F A : Type 0} (read : Read F A) → is_none (fault_in read) ≡ is_ok read
accepted_is (Ok x) = refl
accepted_is (Err fault) = refl

pub trades_quiet : (name bytes : List ℕ) → is_none (all_trades_faults name bytes) ≡ is_ok (trades_of bytes)
unfolding all_trades_faults
trades_quiet name bytes = go (trade_faults bytes) ∙ ap is_none (first_is.trades bytes) ∙ accepted_is (trades_of bytes)
  where
    go : (read : Read Field (List (Option (ReadError Field)))) → is_none (trades_told name (strip_bom bytes) read) ≡ is_none (first_fault read)
    go (Ok faults) = none_told name (trade_line name (strip_bom bytes)) 2 faults
    go (Err fault) = refl

pub cash_quiet : (room : ℕ) (name bytes : List ℕ) → is_none (all_cash_faults room name bytes) ≡ is_ok (cash_of bytes room)
unfolding all_cash_faults
cash_quiet room name bytes = go (cash_faults bytes room) ∙ ap is_none (first_is.cash bytes room) ∙ accepted_is (cash_of bytes room)
  where
    go : (read : Read CashField (List (Option (ReadError CashField)))) → is_none (cash_told name (strip_bom bytes) room read) ≡ is_none (first_fault read)
    go (Ok faults) = none_told name (cash_line name (strip_bom bytes) room) 2 faults
    go (Err fault) = refl

-- ---- what is said

-- of records
pub trades_said : (name bytes : List ℕ) (faults : List (Option (ReadError Field))) (said : Option (List ℕ)) → trade_faults bytes ≡ Ok faults
    → said ≡ records_text name (trade_line name (strip_bom bytes)) (refusals 2 faults) → said ≡ all_trades_faults name bytes
unfolding all_trades_faults
trades_said name bytes faults said known is = rw known is

pub cash_said : (room : ℕ) (name bytes : List ℕ) (faults : List (Option (ReadError CashField))) (said : Option (List ℕ)) → cash_faults bytes room ≡ Ok faults
    → said ≡ records_text name (cash_line name (strip_bom bytes) room) (refusals 2 faults) → said ≡ all_cash_faults room name bytes
unfolding all_cash_faults
cash_said room name bytes faults said known is = rw known is

-- of a file that is refused whatever its records
pub trades_headed : (name bytes : List ℕ) (e : ReadError Field) (said : List ℕ) → (e ≡ error.OutOfMemory → ⊥) → IsRefusalOf e (trade_faults bytes) → said ≡ trades_head name (strip_bom bytes) e
    → Some said ≡ all_trades_faults name bytes
unfolding all_trades_faults
trades_headed name bytes e said other refused is = rw (refused_so e (trade_faults bytes) other refused) (ap Some is)

pub cash_headed : (room : ℕ) (name bytes : List ℕ) (e : ReadError CashField) (said : List ℕ) → (e ≡ error.OutOfMemory → ⊥) → IsRefusalOf e (cash_faults bytes room) → said ≡ cash_head name (strip_bom bytes) room e
    → Some said ≡ all_cash_faults room name bytes
unfolding all_cash_faults
cash_headed room name bytes e said other refused is = rw (refused_so e (cash_faults bytes room) other refused) (ap Some is)

pub length_front : {A : Type 0} (xs : List A) (n : ℕ) → n < length xs → length (take n xs) ≡ n
length_front [] n few = absurd (omega (arith, few))
length_front (x ∷ xs) zero few = refl
length_front (x ∷ xs) (suc n) few = let more = length_front xs n (omega (arith, few)) in omega (arith, more)

-- ---- lines

pub trade_line_is : (name text : List ℕ) (number : ℕ) (e : ReadError Field) → (e ≡ error.TooMany → ⊥) → trade_line_at name text number e ≡ trades_line_in name text e
trade_line_is name text number error.Header other = refl
trade_line_is name text number (error.Row rec) other = refl
trade_line_is name text number (error.Field rec what) other = refl
trade_line_is name text number (error.Range rec what) other = refl
trade_line_is name text number error.TooMany other = absurd (other refl)
trade_line_is name text number (error.TooLong bytes) other = refl
trade_line_is name text number error.OutOfMemory other = refl

pub cash_line_is : (name text : List ℕ) (room number : ℕ) (e : ReadError CashField) → (e ≡ error.TooMany → ⊥) → cash_line_at name text room number e ≡ cash_line_in name text room e
cash_line_is name text room number error.Header other = refl
cash_line_is name text room number (error.Row rec) other = refl
cash_line_is name text room number (error.Field rec what) other = refl
cash_line_is name text room number (error.Range rec what) other = refl
cash_line_is name text room number error.TooMany other = absurd (other refl)
cash_line_is name text room number (error.TooLong bytes) other = refl
cash_line_is name text room number error.OutOfMemory other = refl

pub trades_head_is : (name text : List ℕ) (e : ReadError Field) → (e ≡ error.Header → ⊥) → trades_head name text e ≡ trades_line_in name text e
trades_head_is name text error.Header other = absurd (other refl)
trades_head_is name text (error.Row rec) other = refl
trades_head_is name text (error.Field rec what) other = refl
trades_head_is name text (error.Range rec what) other = refl
trades_head_is name text error.TooMany other = refl
trades_head_is name text (error.TooLong bytes) other = refl
trades_head_is name text error.OutOfMemory other = refl

pub cash_head_is : (name text : List ℕ) (room : ℕ) (e : ReadError CashField) → (e ≡ error.Header → ⊥) → cash_head name text room e ≡ cash_line_in name text room e
cash_head_is name text room error.Header other = absurd (other refl)
cash_head_is name text room (error.Row rec) other = refl
cash_head_is name text room (error.Field rec what) other = refl
cash_head_is name text room (error.Range rec what) other = refl
cash_head_is name text room error.TooMany other = refl
cash_head_is name text room (error.TooLong bytes) other = refl
cash_head_is name text room error.OutOfMemory other = refl

-- ---- names

take_step : {A : Type 0} (n : ℕ) (xs : List A) → take (n + 1) xs ≡ take n xs ++ take 1 (drop n xs)
take_step zero xs = refl
take_step (suc n) [] = take_none (suc n + 1)
take_step (suc n) (x ∷ xs) = ap (λ k. take k (x ∷ xs)) (let e : suc n + 1 ≡ suc (n + 1) = omega arith in e) ∙ ap (λ more. x ∷ more) (take_step n xs)

-- one name more
pub names_more : {A : Type 0} (f : A → List ℕ) (old text new : List ℕ) (xs : List A) (n : ℕ) → text ≡ old ++ flat_map f (take n xs) → new ≡ text ++ flat_map f (take 1 (drop n xs))
    → new ≡ old ++ flat_map f (take (n + 1) xs)
names_more f old text new xs n so_far added =
    added ∙ ap (λ (t : List ℕ). t ++ flat_map f (take 1 (drop n xs))) so_far ∙ append_assoc old (flat_map f (take n xs)) (flat_map f (take 1 (drop n xs)))
    ∙ ap (λ (t : List ℕ). old ++ t) (sym (flat_map-append f (take n xs) (take 1 (drop n xs))) ∙ ap (flat_map f) (sym (take_step n xs)))

past_all : (fields : List (List ℕ)) (place : ℕ) → field_at fields place ≡ None → drop place fields ≡ []
unfolding field_at
past_all [] zero none = refl
past_all [] (suc place) none = refl
past_all (field ∷ fields) zero none = cc none
past_all (field ∷ fields) (suc place) none = past_all fields place none

there_is : (fields : List (List ℕ)) (place : ℕ) (name : List ℕ) → field_at fields place ≡ Some name → take 1 (drop place fields) ≡ name ∷ []
unfolding field_at
there_is [] zero name some = cc some
there_is [] (suc place) name some = cc some
there_is (field ∷ fields) zero name some = ap (λ (o : Option (List ℕ)). unwrap_or o name ∷ []) some
there_is (field ∷ fields) (suc place) name some = there_is fields place name some

-- no name at a place
pub no_name : (text : List ℕ) (fields : List (List ℕ)) (place : ℕ) → field_at fields place ≡ None → text ≡ text ++ flat_map named (take 1 (drop place fields))
no_name text fields place none = sym (ap (λ (rest : List (List ℕ)). text ++ flat_map named (take 1 rest)) (past_all fields place none) ∙ append-nil text)

-- a name at a place
pub one_name : (text after : List ℕ) (fields : List (List ℕ)) (place : ℕ) (name : List ℕ) → field_at fields place ≡ Some name → after ≡ text ++ named name
    → after ≡ text ++ flat_map named (take 1 (drop place fields))
one_name text after fields place name some added =
    added ∙ ap (λ (t : List ℕ). text ++ t) (sym (append-nil (named name))) ∙ ap (λ (names : List (List ℕ)). text ++ flat_map named names) (sym (there_is fields place name some))

-- ---- nothing said

none_map : {A B : Type 0} (f : A → B) (o : Option A) → is_none (option_map f o) ≡ is_none o
none_map f None = refl
none_map f (Some x) = refl

pub trades_none : {A : Type 0} (f : A → List ℕ) (said : Option A) (name bytes : List ℕ) → option_map f said ≡ all_trades_faults name bytes → is_none said ≡ is_ok (trades_of bytes)
trades_none f said name bytes is = sym (none_map f said) ∙ ap is_none is ∙ trades_quiet name bytes

pub cash_none : {A : Type 0} (f : A → List ℕ) (said : Option A) (room : ℕ) (name bytes : List ℕ) → option_map f said ≡ all_cash_faults room name bytes → is_none said ≡ is_ok (cash_of bytes room)
cash_none f said room name bytes is = sym (none_map f said) ∙ ap is_none is ∙ cash_quiet room name bytes
