-- The rows that are told, one row later.
use Rattle.std.proofs.Common.{ℕ, zero, suc, ◌≡◌, ◌<◌, ◌+◌, ◌-◌, Bool, true, false, cond, List, [], ◌∷◌, ◌++◌, drop, get_or, length, map, min, refl, sym, take, ap, ◌∙◌, append_assoc, arith}
use Rattle.std.specs.Prelude.{count_by, flat_map, option_map, slice_get}
use Rattle.std.proofs.lemmas.List.{drop_more}
use Rattle.std.proofs.lemmas.List.Sums.{count_by_more_no, count_by_more_yes}
use Rattle.plan_reader.specs.declared.stage.Stage.{Stage}
use Rattle.row_reach.specs.Reach.{Passage}
use Rattle.reach_finder.specs.Traced.{marks_in, rows_in}
use Rattle.reach_finder.specs.declared.shades.Traced.{Traced}
use Rattle.reach_text.specs.Told.{numbered, told_from}
use Rattle.reach_text.specs.Trace.{Asked, stage_text, stages_text}
use Rattle.reach_text.specs.declared.told.ToldRow.{ToldRow}

one_if : (t : Bool) (x : ToldRow) (rest : List ToldRow) → cond t (x ∷ []) [] ++ rest ≡ cond t (x ∷ rest) rest
one_if true x rest = refl
one_if false x rest = refl

-- one row later
pub told_on : (xs : List Traced) (k n : ℕ) (d : Traced) (had has whole : List ToldRow) → k < length xs
    → has ≡ had ++ cond (get_or xs k d).reached (numbered n (get_or xs k d).row ∷ []) []
    → had ++ told_from n (rows_in (drop k xs)) (marks_in (drop k xs)) ≡ whole → has ++ told_from (n + 1) (rows_in (drop (k + 1) xs)) (marks_in (drop (k + 1) xs)) ≡ whole
told_on xs k n d had has whole l gave before =
    let x = get_or xs k d in
    let here = numbered n x.row in
    let rest = told_from (n + 1) (rows_in (drop (k + 1) xs)) (marks_in (drop (k + 1) xs)) in
    ap (λ (told : List ToldRow). told ++ rest) gave
    ∙ (append_assoc had (cond x.reached (here ∷ []) []) rest
    ∙ (ap (λ (told : List ToldRow). had ++ told) (one_if x.reached here rest)
    ∙ (ap (λ (ys : List Traced). had ++ told_from n (rows_in ys) (marks_in ys)) (sym (drop_more xs k d l)) ∙ before)))

-- one more element is counted, or isn't
pub count_on : {X : Type 0} (p : X → Bool) (xs : List X) (k : ℕ) (d : X) (t : Bool) → k < length xs → t ≡ p (get_or xs k d) → cond t (count_by p (take k xs) + 1) (count_by p (take k xs)) ≡ count_by p (take (k + 1) xs)
count_on p xs k d true within is = sym (count_by_more_yes p xs k d within (sym is))
count_on p xs k d false within is = sym (count_by_more_no p xs k d within (sym is))

pub get_mapped : (xs : List Traced) (k : ℕ) (d : Traced) → k < length xs → get_or (rows_in xs) k d.row ≡ (get_or xs k d).row
get_mapped [] k d l = refl
get_mapped (x ∷ xs) zero d l = refl
get_mapped (x ∷ xs) (suc k) d l = get_mapped xs k d (omega arith)

-- no more are taken than there are
take_none : {X : Type 0} (n : ℕ) → take n (let none : List X = [] in none) ≡ []
take_none zero = refl
take_none (suc n) = refl

pub take_least : {X : Type 0} (xs : List X) (n : ℕ) → take (min n (length xs)) xs ≡ take n xs
take_least [] n = take_none (min n 0) ∙ sym (take_none n)
take_least (x ∷ xs) zero = ap (λ m. take m (x ∷ xs)) (let e : min 0 (suc (length xs)) ≡ 0 = omega arith in e)
take_least (x ∷ xs) (suc n) = ap (λ m. take m (x ∷ xs)) (let e : min (suc n) (suc (length xs)) ≡ suc (min n (length xs)) = omega arith in e) ∙ ap (λ ys. x ∷ ys) (take_least xs n)

-- what a function gives of an element, if it is there
pub mapped_got : {X Y : Type 0} (f : X → Y) (xs : List X) (n : ℕ) → slice_get (map f xs) n ≡ option_map f (slice_get xs n)
mapped_got f [] n = refl
mapped_got f (x ∷ xs) zero = refl
mapped_got f (x ∷ xs) (suc n) = mapped_got f xs n

-- lines one more
pub lines_on : {X : Type 0} (line : X → List ℕ) (xs : List X) (k : ℕ) (d : X) (had has whole : List ℕ) → k < length xs → has ≡ had ++ line (get_or xs k d)
    → had ++ flat_map line (drop k xs) ≡ whole → has ++ flat_map line (drop (k + 1) xs) ≡ whole
lines_on line xs k d had has whole l gave before =
    let rest = flat_map line (drop (k + 1) xs) in
    ap (λ (t : List ℕ). t ++ rest) gave ∙ (append_assoc had (line (get_or xs k d)) rest ∙ (ap (λ ys. had ++ flat_map line ys) (sym (drop_more xs k d l)) ∙ before))

-- stages one more
pub stages_on : (a : Asked) (stages : List Stage) (k number : ℕ) (d : Stage) (passages : List Passage) (had has whole : List ℕ) → k < length stages
    → has ≡ had ++ stage_text a number (get_or stages k d) (slice_get passages (number - 1))
    → had ++ stages_text a number (drop k stages) passages ≡ whole → has ++ stages_text a (number + 1) (drop (k + 1) stages) passages ≡ whole
stages_on a stages k number d passages had has whole l gave before =
    let rest = stages_text a (number + 1) (drop (k + 1) stages) passages in
    ap (λ (t : List ℕ). t ++ rest) gave
    ∙ (append_assoc had (stage_text a number (get_or stages k d) (slice_get passages (number - 1))) rest
    ∙ (ap (λ (ss : List Stage). had ++ stages_text a number ss passages) (sym (drop_more stages k d l)) ∙ before))
