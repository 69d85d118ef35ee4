-- A join stands in the last stage alone.
use Rattle.std.proofs.Common.{Bool, true, false, ◌≡◌, ◌≤◌, ◌-◌, ◌||◌, List, [], ◌∷◌, ◌++◌, length, take, refl, sym, ap, ◌∙◌, arith, length-append}
use Rattle.std.specs.Prelude.{All}
use Rattle.std.specs.List.{list_any}
use Rattle.std.proofs.lemmas.Bool.{true≢false}
use Rattle.std.proofs.Math.Seq.{take-append_seam}
use Rattle.std.proofs.lemmas.List.{take-take}
use Rattle.std.proofs.lemmas.List.Elements.{All-cons, All-nil, All-same, All-take}
use Rattle.std.proofs.lemmas.List.Folds.{list_any_none}
use Rattle.plan_reader.specs.PlanView.{IsJoinLast, is_joining}
use Rattle.plan_reader.specs.declared.stage.Stage.{Stage}

abbrev pub JoinsNot : Stage → Type 0
JoinsNot s = is_joining s ≡ false

neither : (s t : Bool) → (s || t) ≡ false → (s ≡ false) × (t ≡ false)
neither true t none = absurd (true≢false none)
neither false t none = (refl, none)

none_joins : (stages : List Stage) → list_any is_joining stages ≡ false → All JoinsNot stages
none_joins [] none = All-nil JoinsNot
none_joins (s ∷ stages) none =
    let (here, later) = neither (is_joining s) (list_any is_joining stages) none in
    All-cons JoinsNot s stages here (none_joins stages later)

-- a stage after stages that don't join
pub one_more : (before : List Stage) (s : Stage) → list_any is_joining before ≡ false → IsJoinLast (before ++ s ∷ [])
one_more before s none =
    let count : length before ≡ length (before ++ s ∷ []) - 1 = omega (arith, length-append before (s ∷ [])) in
    let front : take (length (before ++ s ∷ []) - 1) (before ++ s ∷ []) ≡ before
    = ap (λ n. take n (before ++ s ∷ [])) (sym count) ∙ take-append_seam before (s ∷ []) in
    All-same JoinsNot (take (length (before ++ s ∷ []) - 1) (before ++ s ∷ [])) before front (none_joins before none)

-- no stage before another one joins
pub none_before : (before : List Stage) (s : Stage) (after : List Stage) → IsJoinLast (before ++ s ∷ after) → list_any is_joining before ≡ false
none_before before s after last =
    let stages = before ++ s ∷ after in
    let room : length before ≤ length (before ++ s ∷ after) - 1 = omega (arith, length-append before (s ∷ after)) in
    let front : take (length before) (take (length stages - 1) stages) ≡ before
    = take-take (length before) (length stages - 1) stages room ∙ take-append_seam before (s ∷ after) in
    list_any_none is_joining before (All-same JoinsNot before (take (length before) (take (length stages - 1) stages)) (sym front) (All-take JoinsNot (length before) (take (length stages - 1) stages) last))
