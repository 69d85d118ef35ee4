-- What was given and what waits, where together they are all that was sent; and lists that grow.
use Rattle.std.proofs.Common.{◌≡◌, List, [], ◌∷◌, ◌++◌, length, drop, refl, ap, sym, ◌∙◌, append_assoc}
use Rattle.std.proofs.lemmas.List.{drop_at}
use mathlib.Core.List.{IsPrefix}

-- one more of what waits is given: what waits before and after it
pub record GivesOneMore {A : Type 0} (sent given : List A) (next : A) (later : List A) : Type 0 where
  pub before : drop (length given) sent ≡ next ∷ later
  pub after : drop (length (given ++ next ∷ [])) sent ≡ later
  pub all : (given ++ next ∷ []) ++ later ≡ sent

pub gives_one_more : {A : Type 0} (sent given waiting : List A) (next : A) (later : List A)
    → given ++ waiting ≡ sent → waiting ≡ next ∷ later → GivesOneMore sent given next later
gives_one_more sent given waiting next later whole first =
    let all : (given ++ next ∷ []) ++ later ≡ sent =
    append_assoc given (next ∷ []) later ∙ (ap (λ l. given ++ l) (sym first) ∙ whole) in
    record {
      before = ap (drop (length given)) (sym whole) ∙ (drop_at given waiting (length given) refl ∙ first);
      after = ap (drop (length (given ++ next ∷ []))) (sym all) ∙ drop_at (given ++ next ∷ []) later (length (given ++ next ∷ [])) refl;
      all = all;
    }

-- a list that grows twice has grown
pub grows_on : {A : Type 0} (first second third : List A) → IsPrefix first second → IsPrefix second third → IsPrefix first third
grows_on first second third once again =
    (once.0 ++ again.0, sym (append_assoc first once.0 again.0) ∙ (ap (λ l. l ++ again.0) once.1 ∙ again.1))
