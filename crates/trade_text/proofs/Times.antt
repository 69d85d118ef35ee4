-- A number has no colon, so a time that is a number is no time of day.
use Rattle.std.proofs.Common.{ℕ, ◌≡◌, ◌∙◌, ◌==◌, Bool, true, false, not, List, [], ◌∷◌, length, Option, None, Result, Ok, Err, refl, sym, arith, position}
use Rattle.std.specs.Char.{is_ascii_digit}
use Rattle.std.specs.List.{list_all, prefix_len}
use Rattle.std.proofs.lemmas.Bool.Decides.{nat_tests}
use Rattle.trade_text.specs.Fields.{digits_of, number_between, time_of}
use Rattle.trade_text.specs.Limits.{max_seconds}
use Rattle.trade_text.specs.declared.fields.Fault.{Fault}
use Rattle.trade_text.specs.declared.fields.Fault.TheVariants as fault

no_mark : (digits : List ℕ) → list_all is_ascii_digit digits ≡ true → prefix_len (λ b. not (b == 58)) digits ≡ length digits
no_mark [] all = refl
no_mark (d ∷ digits) all = grind (arith, nat_tests, no_mark digits)

no_colon : (text : List ℕ) → list_all is_ascii_digit text ≡ true → position (λ b. b == 58) text ≡ None
no_colon text all = rw (no_mark text all) (grind (arith, nat_tests))

no_number : (text : List ℕ) → list_all is_ascii_digit text ≡ false → digits_of text ≡ None
no_number text some = grind (arith, nat_tests)

-- what has no value has not the form of a number
unformed : (text : List ℕ) (value : Option ℕ) → digits_of text ≡ value → value ≡ None → number_between 0 max_seconds text ≡ Err fault.Form
unfolding number_between
unformed text value e none = rw (e, none) refl

-- A number has digits alone.
digits_of_number : (text : List ℕ) (answer : Result ℕ Fault) → number_between 0 max_seconds text ≡ answer → (answer ≡ Err fault.Form → ⊥)
    → (all : Bool) → list_all is_ascii_digit text ≡ all → all ≡ true
digits_of_number text answer e formed true is = refl
digits_of_number text answer e formed false is = absurd (formed (sym e ∙ unformed text (digits_of text) refl (no_number text is)))

number_at_once : (text : List ℕ) (answer : Result ℕ Fault) → number_between 0 max_seconds text ≡ answer → (answer ≡ Err fault.Form → ⊥) → time_of text ≡ answer
number_at_once text answer e formed =
    let all = digits_of_number text answer e formed (list_all is_ascii_digit text) refl in
    rw (no_colon text all, e) refl

pub number_is_time : (text : List ℕ) (n : ℕ) → number_between 0 max_seconds text ≡ Ok n → time_of text ≡ Ok n
number_is_time text n e = number_at_once text (Ok n) e (λ f. cc)

pub late_number : (text : List ℕ) → number_between 0 max_seconds text ≡ Err fault.Range → time_of text ≡ Err fault.Range
late_number text e = number_at_once text (Err fault.Range) e (λ f. cc)
