-- What words of `flux_live` mean to `flux`.
use Rattle.std.proofs.Common.{◌≡◌, ◌∙◌, refl, ap, subst, sym, Bool, true, false, List, [], ◌∷◌, Some, None, option_map}
use Rattle.std.specs.Prelude.{◌&&◌, if◌then◌else◌}
use Rattle.command_line.specs.Forms.{Run, form, request, run_form}
use Rattle.command_line.specs.Words.{Text, is_plain}
use Rattle.flux_top.specs.Outcome.{asked, course_of}
use Rattle.live_top.specs.Words.{Files, as_run, course_over, files_of, naming, options_with, run_words, words_for}

two_words : (plan trades : Text) → is_plain plan ≡ true → is_plain trades ≡ true → form (run_words plan trades None) ≡ Some (Run plan trades (options_with None))
unfolding form request run_form
two_words plan trades p t = rw (p, t) refl

three_words : (plan trades script : Text) → is_plain plan ≡ true → is_plain trades ≡ true → is_plain script ≡ true
    → form (run_words plan trades (Some script)) ≡ Some (Run plan trades (options_with (Some script)))
unfolding form request run_form
three_words plan trades script p t s = rw (p, t, s) refl

same_value : {A : Type 0} {x y : A} → Some x ≡ Some y → x ≡ y
same_value e = cc

-- files that are named ask for the course over them
files_ask : (words : List Text) (named : Files) → files_of words ≡ Some named → asked (words_for (Some named)) ≡ Some (course_over named)
files_ask [] named e = cc
files_ask (plan ∷ []) named e = cc
files_ask (plan ∷ trades ∷ []) named e = go (is_plain plan) (is_plain trades) refl refl e
  where
    go : (p t : Bool) → is_plain plan ≡ p → is_plain trades ≡ t → (if p && t then Some (naming plan trades None) else None) ≡ Some named → asked (words_for (Some named)) ≡ Some (course_over named)
    go true true p t e = subst (λ f. asked (words_for (Some f)) ≡ Some (course_over f)) (same_value e) (ap (option_map course_of) (two_words plan trades p t))
    go true false p t e = cc
    go false t p q e = cc
files_ask (plan ∷ trades ∷ script ∷ []) named e = go (is_plain plan) (is_plain trades) (is_plain script) refl refl refl e
  where
    go : (p t s : Bool) → is_plain plan ≡ p → is_plain trades ≡ t → is_plain script ≡ s
        → (if p && t && s then Some (naming plan trades (Some script)) else None) ≡ Some named → asked (words_for (Some named)) ≡ Some (course_over named)
    go true true true p t s e = subst (λ f. asked (words_for (Some f)) ≡ Some (course_over f)) (same_value e) (ap (option_map course_of) (three_words plan trades script p t s))
    go true true false p t s e = cc
    go true false s p t q e = cc
    go false t s p q r e = cc
files_ask (plan ∷ trades ∷ script ∷ more ∷ words) named e = cc

pub asks_for : (words : List Text) (named : Files) → files_of words ≡ Some named → asked (as_run words) ≡ Some (course_over named)
asks_for words named is = ap (λ f. asked (words_for f)) is ∙ files_ask words named is

pub asks_nothing : (words : List Text) → files_of words ≡ None → asked (as_run words) ≡ None
unfolding form
asks_nothing words is = ap (λ f. asked (words_for f)) is

none_not_some : {A : Type 0} {x : A} → None ≡ Some x → ⊥
none_not_some e = cc

pub asks_something : (words : List Text) (named : Files) → files_of words ≡ Some named → asked (as_run words) ≡ None → ⊥
asks_something words named is none = none_not_some (sym none ∙ asks_for words named is)
