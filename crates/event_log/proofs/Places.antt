-- Numbers by their places: more of them, and one of them new.
use Rattle.std.proofs.Common.{ℕ, zero, suc, ◌≡◌, ◌≢◌, ◌<◌, Bool, true, false, List, [], ◌∷◌, ◌++◌, length, map, set, get_or, refl, ap, ◌∙◌}
use Rattle.std.specs.Prelude.{nat_eq, if◌then◌else◌}
use Rattle.std.proofs.Math.Path.{fun_ext}
use Rattle.std.proofs.lemmas.List.{get_or-set_same, get_or-set_other}
use borrow.Author.Tests.{eqb-true, eqb-false}
use Rattle.event_log.specs.Reading.{by_place, noted}

zero_beyond : {A : Type 0} (numbers : List ℕ) (more : List A) (place : ℕ) → get_or (numbers ++ map (λ sender. 0) more) place 0 ≡ get_or numbers place 0
zero_beyond [] [] place = refl
zero_beyond [] (x ∷ more) zero = refl
zero_beyond [] (x ∷ more) (suc place) = zero_beyond [] more place
zero_beyond (n ∷ numbers) more zero = refl
zero_beyond (n ∷ numbers) more (suc place) = zero_beyond numbers more place

-- zeros at the end tell nothing
pub by_place-zeros : {A : Type 0} (numbers : List ℕ) (more : List A) → by_place (numbers ++ map (λ sender. 0) more) ≡ by_place numbers
by_place-zeros numbers more = fun_ext (zero_beyond numbers more)

set_by : (numbers : List ℕ) (place n other : ℕ) → place < length numbers → (t : Bool) → nat_eq other place ≡ t
    → get_or (set numbers place n) other 0 ≡ (if t then n else get_or numbers other 0)
set_by numbers place n other within true test =
    let same : other ≡ place = eqb-true other place test in
    ap (λ k. get_or (set numbers place n) k 0) same ∙ get_or-set_same numbers place n 0 within
set_by numbers place n other within false test =
    let differs : other ≢ place = eqb-false other place test in
    get_or-set_other numbers place other n 0 differs

-- one of them new
pub by_place-set : (numbers : List ℕ) (place n : ℕ) → place < length numbers → by_place (set numbers place n) ≡ noted place n (by_place numbers)
by_place-set numbers place n within = fun_ext (λ other. set_by numbers place n other within (nat_eq other place) refl)

pub by_place-none : by_place [] ≡ (λ sender. 0)
by_place-none = fun_ext (λ place. refl)
