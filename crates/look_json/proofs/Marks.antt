-- What stands behind the text with which another text begins.
use Rattle.std.proofs.Common.{ℕ, ◌≡◌, ◌∙◌, ap, refl, sym, true, false, List, drop, length, Option, None, Some}
use Rattle.std.specs.Borrow.{Bor}
use Rattle.std.specs.Option.{MatchOption}
use Rattle.std.specs.Prelude.{◌==◌, if◌then◌else◌, option_map}
use Rattle.std.specs.List.{starts_with}
use Rattle.std.specs.Str.Pattern.{FindsTextPrefix, StripsPrefix}
use Rattle.std.proofs.lemmas.Slice.Eq.{starts_is}
use Rattle.std.proofs.lemmas.Str.Pattern.{starts_text}
use Rattle.std.proofs.lemmas.Bool.Decides.{Decides-eqb}

-- what `strip_prefix` says of a text mark
pub stripped : (mark text : List ℕ) (found : Option (Bor (List ℕ))) → MatchOption found (FindsTextPrefix mark text None) (λ x. StripsPrefix (FindsTextPrefix mark) text x.now)
    → option_map (λ x. x.now) found ≡ (if starts_with (◌==◌) text mark then Some (drop (length mark) text) else None)
stripped mark text None lacks = λ j. if (starts_text false mark text lacks j) then Some (drop (length mark) text) else None
stripped mark text (Some x) strips =
    let n = strips.0 in
    let found = strips.1 in
    let begins : starts_with (◌==◌) text mark ≡ true = (starts_is Decides-eqb text mark _ refl).1 (drop n text) found.1 in
    λ j. if (sym begins j) then Some ((strips.2 ∙ ap (λ k. drop k text) found.0) j) else None
