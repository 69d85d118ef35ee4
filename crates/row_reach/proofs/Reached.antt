-- A row is reached from marked rows exactly where it rests on a marked row.
use Rattle.std.proofs.Common.{ℕ, zero, suc, ◌≡◌, ◌<◌, ◌+◌, Bool, true, false, cond, ◌&&◌, ◌||◌, List, [], ◌∷◌, ◌++◌, get_or, length, map, refl, replicate, set, sym, ap, ◌∙◌, arith}
use Rattle.std.specs.Prelude.{All, flat_map}
use Rattle.std.specs.List.{list_any}
use Rattle.std.proofs.lemmas.List.{length-map, length-set}
use Rattle.std.proofs.lemmas.List.Elements.{All-head, All-tail}
use Rattle.std.proofs.lemmas.List.Folds.{list_any-append}
use Rattle.tuple_edge.specs.declared.row.Row.{Row}
use Rattle.plan_reader.specs.PlanView.{IsStage}
use Rattle.plan_reader.specs.declared.stage.Stage.{Stage}
use Rattle.row_cause.specs.Causes.{Cause, alone}
use Rattle.row_cause.specs.declared.placed.Placed.{Placed}
use Rattle.evaluation.specs.StageRows.{early_replies, late_replies}
use Rattle.row_origin.specs.Marks.{asked_from, marked, rested}
use Rattle.row_origin.specs.Origins.{only, rests}
use Rattle.row_origin.specs.Stages.{passed_on, stage_causes}
use Rattle.row_origin.proofs.Stages.{passed_rest}
use Rattle.row_reach.specs.Laws.{ReachedFromWhatTheyRestOn}
use Rattle.row_reach.specs.Reach.{is_marked, reached, reaches, touched}

-- ---- two lists of marks

-- whether both have a mark at one place
abbrev meets : List Bool → List Bool → Bool
meets [] ys = false
meets (a ∷ xs) [] = false
meets (a ∷ xs) (b ∷ ys) = (a && b) || meets xs ys

-- ---- booleans

or_false : (a : Bool) → (a || false) ≡ a
or_false true = refl
or_false false = refl

and_false : (a : Bool) → (a && false) ≡ false
and_false true = refl
and_false false = refl

or_swap : (a b c : Bool) → (a || (b || c)) ≡ (b || (a || c))
or_swap true true c = refl
or_swap true false c = refl
or_swap false true c = refl
or_swap false false c = refl

or_assoc : (a b c : Bool) → ((a || b) || c) ≡ (a || (b || c))
or_assoc true b c = refl
or_assoc false b c = refl

-- a mark more at a place that may have one
set_or : (a b c : Bool) → ((a && true) || c) ≡ (a || ((a && b) || c))
set_or true b c = refl
set_or false b c = refl

-- ---- one mark

meets-set : (xs ys : List Bool) (k : ℕ) → length xs ≡ length ys → meets xs (set ys k true) ≡ (get_or xs k false || meets xs ys)
meets-set [] ys k e = refl
meets-set (a ∷ xs) [] k e = absurd (omega arith)
meets-set (a ∷ xs) (b ∷ ys) zero e = set_or a b (meets xs ys)
meets-set (a ∷ xs) (b ∷ ys) (suc k) e =
    ap (λ (c : Bool). (a && b) || c) (meets-set xs ys k (omega arith)) ∙ or_swap (a && b) (get_or xs k false) (meets xs ys)

none_met : (xs : List Bool) (n : ℕ) → meets xs (replicate n false) ≡ false
none_met [] n = refl
none_met (a ∷ xs) zero = refl
none_met (a ∷ xs) (suc n) = ap (λ (c : Bool). c || meets xs (replicate n false)) (and_false a) ∙ none_met xs n

meets_swap : (xs ys : List Bool) → meets xs ys ≡ meets ys xs
meets_swap [] [] = refl
meets_swap [] (b ∷ ys) = refl
meets_swap (a ∷ xs) [] = refl
meets_swap (a ∷ xs) (b ∷ ys) = and_swap a b (meets xs ys) ∙ ap (λ (c : Bool). (b && a) || c) (meets_swap xs ys)
  where
    and_swap : (a b c : Bool) → ((a && b) || c) ≡ ((b && a) || c)
    and_swap true true c = refl
    and_swap true false c = refl
    and_swap false true c = refl
    and_swap false false c = refl

length-replicate : (n : ℕ) → length (replicate n false) ≡ n
length-replicate zero = refl
length-replicate (suc n) = ap suc (length-replicate n)

meets_only : (xs : List Bool) (k n : ℕ) → length xs ≡ n → meets xs (only k n) ≡ get_or xs k false
meets_only xs k n e =
    meets-set xs (replicate n false) k (e ∙ sym (length-replicate n)) ∙ (ap (λ (c : Bool). get_or xs k false || c) (none_met xs n) ∙ or_false (get_or xs k false))

-- ---- the rows of causes

meets_marked : (marks : List Bool) (placed : List Placed) (had : List Bool) → length marks ≡ length had → meets marks (marked placed had) ≡ (list_any (is_marked marks) placed || meets marks had)
meets_marked marks [] had e = refl
meets_marked marks (x ∷ placed) had e =
    meets_marked marks placed (set had x.place true) (e ∙ sym (length-set had x.place true))
    ∙ (ap (λ (c : Bool). list_any (is_marked marks) placed || c) (meets-set marks had x.place e)
    ∙ (or_swap (list_any (is_marked marks) placed) (is_marked marks x) (meets marks had) ∙ sym (or_assoc (is_marked marks x) (list_any (is_marked marks) placed) (meets marks had))))

-- causes whose answers are asked about, one place on
asked_on_by : (c : Cause) (t : Bool) (xs ys : List Cause) → xs ≡ ys → cond t (c ∷ xs) xs ≡ cond t (c ∷ ys) ys
asked_on_by c t xs ys e = ap (λ (zs : List Cause). cond t (c ∷ zs) zs) e

asked_on : (n : ℕ) (b : Bool) (asked : List Bool) (causes : List Cause) → asked_from (suc n) (b ∷ asked) causes ≡ asked_from n asked causes
asked_on n b asked [] = refl
asked_on n b asked (c ∷ causes) =
    asked_on_by c (get_or asked n false) (asked_from (suc n + 1) (b ∷ asked) causes) (asked_from (n + 1) asked causes)
    (ap (λ (m : ℕ). asked_from m (b ∷ asked) causes) (let e : suc n + 1 ≡ suc (n + 1) = omega arith in e) ∙ asked_on (n + 1) b asked causes)

none_asked : (n : ℕ) (causes : List Cause) → asked_from n [] causes ≡ []
none_asked n [] = refl
none_asked n (c ∷ causes) = none_asked (n + 1) causes

touched_asked_by : (marks : List Bool) (b : Bool) (c : Cause) (more : List Cause) (rest : Bool) → list_any (is_marked marks) (flat_map rested more) ≡ rest
    → list_any (is_marked marks) (flat_map rested (cond b (c ∷ more) more)) ≡ ((touched marks c && b) || rest)
touched_asked_by marks true c more rest e =
    list_any-append (is_marked marks) (rested c) (flat_map rested more) ∙ (ap (λ (z : Bool). touched marks c || z) e ∙ ap (λ (z : Bool). z || rest) (sym (and_true (touched marks c))))
  where
    and_true : (a : Bool) → (a && true) ≡ a
    and_true true = refl
    and_true false = refl
touched_asked_by marks false c more rest e = e ∙ ap (λ (z : Bool). z || rest) (sym (and_false (touched marks c)))

touched_asked : (marks asked : List Bool) (causes : List Cause) → list_any (is_marked marks) (flat_map rested (asked_from 0 asked causes)) ≡ meets (map (touched marks) causes) asked
touched_asked marks asked [] = refl
touched_asked marks [] (c ∷ causes) = ap (λ (cs : List Cause). list_any (is_marked marks) (flat_map rested cs)) (none_asked 1 causes)
touched_asked marks (b ∷ asked) (c ∷ causes) =
    touched_asked_by marks b c (asked_from 1 (b ∷ asked) causes) (meets (map (touched marks) causes) asked)
    (ap (λ (cs : List Cause). list_any (is_marked marks) (flat_map rested cs)) (asked_on 0 b asked causes) ∙ touched_asked marks asked causes)

-- ---- stages

abbrev one : Row → List Row
one r = r ∷ []

-- as many marks as rows
as_many : (stage : Stage) (early late : List Row) (marks : List Bool) → IsStage stage → length (reached stage early late marks) ≡ length (passed_on stage early late)
as_many stage early late marks limits =
    let causes = stage_causes stage early late in
    length-map causes (touched marks)
    ∙ (sym (length-map causes (alone stage.op)) ∙ (ap length (sym (passed_rest stage early late limits)) ∙ length-map (passed_on stage early late) one))

-- a row is reached exactly where it rests on a marked one
met : (stages : List Stage) (early late : List Row) (marks : List Bool) (n : ℕ) → All IsStage stages → length marks ≡ length (early ++ late)
    → get_or (reaches stages early late marks) n false ≡ meets marks (rests n stages early late)
met [] early late marks n limits size = sym (meets_only marks n (length (early ++ late)) size)
met (stage ∷ stages) early late marks n limits size =
    let E = early_replies stage [] early in
    let L = late_replies stage early late 0 stage.parts in
    let asked = rests n stages E L in
    let causes = stage_causes stage early late in
    let count = length (early ++ late) in
    met stages E L (reached stage early late marks) n (All-tail IsStage stage stages limits) (as_many stage early late marks (All-head IsStage stage stages limits))
    ∙ (sym (touched_asked marks asked causes)
    ∙ (sym (or_false (list_any (is_marked marks) (flat_map rested (asked_from 0 asked causes))))
    ∙ (ap (λ (c : Bool). list_any (is_marked marks) (flat_map rested (asked_from 0 asked causes)) || c) (sym (none_met marks count))
    ∙ sym (meets_marked marks (flat_map rested (asked_from 0 asked causes)) (replicate count false) (size ∙ sym (length-replicate count))))))

pub reached_rest : ReachedFromWhatTheyRestOn
reached_rest stages early late n j limits here =
    let count = length (early ++ late) in
    let asked = rests n stages early late in
    met stages early late (only j count) n limits (length-set (replicate count false) j true ∙ length-replicate count)
    ∙ (meets_swap (only j count) asked ∙ meets_only_short asked j count here)
  where
    meets_only_short : (xs : List Bool) (k n : ℕ) → k < n → meets xs (only k n) ≡ get_or xs k false
    meets_only_short [] k n l = refl
    meets_only_short (a ∷ xs) k zero l = absurd (omega arith)
    meets_only_short (a ∷ xs) zero (suc n) l = first a xs n
      where
        first : (a : Bool) (xs : List Bool) (n : ℕ) → ((a && true) || meets xs (replicate n false)) ≡ a
        first true xs n = refl
        first false xs n = none_met xs n
    meets_only_short (a ∷ xs) (suc k) (suc n) l =
        ap (λ (c : Bool). c || meets xs (only k n)) (and_false a) ∙ meets_only_short xs k n (omega arith)
