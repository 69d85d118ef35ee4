-- How rows pass a stage: what is still to come, one row later.
use Rattle.std.proofs.Common.{ℕ, ◌≡◌, ◌<◌, ◌+◌, Bool, true, false, cond, List, [], ◌∷◌, ◌++◌, drop, get_or, length, refl, sym, take, ap, ◌∙◌, subst, append_assoc}
use Rattle.std.specs.Prelude.{◌==◌, Err, Ok, OnOk, Result, slice_index_or}
use Rattle.std.proofs.lemmas.List.{drop_more, take_more}
use Rattle.tuple_edge.specs.Row.{route_of}
use Rattle.tuple_edge.specs.declared.item.Item.{Item}
use Rattle.tuple_edge.specs.declared.item.Item.TheVariants as item
use Rattle.tuple_edge.specs.declared.row.Row.{Row}
use Rattle.op_spec.specs.declared.spec.OpSpec.{OpSpec}
use Rattle.stream_ops.specs.Answers.{answer, answers}
use Rattle.stream_ops.specs.State.{StandsFor}
use Rattle.plan_reader.specs.declared.stage.Stage.{Stage}
use Rattle.evaluation.specs.StageRows.{HasTaken, alike, rows_to}
use Rattle.evaluation.proofs.Taking.{alike_more, rows_to-here, rows_to-other}
use Rattle.row_cause.specs.Causes.{Cause, row_causes}
use Rattle.row_cause.specs.declared.placed.Placed.{Placed}
use Rattle.row_origin.specs.Marks.{Roles, asked_from, with_causes}
use Rattle.row_origin.specs.Stages.{part_causes, placed_from, placed_to}
use Rattle.row_origin.proofs.Placing.{placed-left, placed-more, to_here, to_other}
use Rattle.origin_finder.specs.Passing.{HasPassed, Passing, causes_from}
use Rattle.origin_finder.specs.Said.{HasNoted, IsLeft}
use Rattle.origin_finder.proofs.Marking.{with_one}
use Rattle.origin_finder.proofs.Saying.{goes_on}

-- ---- results

pub then : {A E : Type 0} {P Q : Type 0} → (r : Result A E) → (P → Q) → OnOk r P → OnOk r Q
then (Ok x) f p = f p
then (Err e) f p = tt

pub on_ok : {A E : Type 0} {P : Type 0} → (r : Result A E) → P → OnOk r P
on_ok (Ok x) p = p
on_ok (Err e) p = tt

pub then3 : {A E : Type 0} {P Q R S : Type 0} → (r : Result A E) → (P → Q → R → S) → OnOk r P → OnOk r Q → OnOk r R → OnOk r S
then3 (Ok x) f p q s = f p q s
then3 (Err e) f p q s = tt

-- ---- answers that are told

-- the roles are those of the nth cause more, if its answer is asked about
pub told_one : (op : OpSpec) (n : ℕ) (asked : List Bool) (causes : List Cause) (k : ℕ) (c : Cause) (first old new : Roles) (whole : List Cause) (t : Bool)
    → drop k causes ≡ c ∷ drop (k + 1) causes → t ≡ slice_index_or asked n false → new ≡ cond t (with_causes op (c ∷ []) old) old
    → with_causes op whole first ≡ with_causes op (asked_from n asked (drop k causes)) old → with_causes op whole first ≡ with_causes op (asked_from (n + 1) asked (drop (k + 1) causes)) new
told_one op n asked causes k c first old new whole t here is e had =
    had ∙ (ap (λ (cs : List Cause). with_causes op (asked_from n asked cs) old) here ∙ with_one op n asked c (drop (k + 1) causes) old new t (sym is) e)

-- ---- late rows

-- a row that goes to another partition
pub passed_other : (stage : Stage) (q : ℕ) (rows : List Row) (k : ℕ) (d : Row) (p : Passing) → k < length rows → (route_of (get_or rows k d) stage.by stage.parts == q) ≡ false
    → HasTaken stage.op p.state (rows_to stage q (take k rows)) → HasPassed stage q rows k p p
passed_other stage q rows k d p l away had =
    let r = get_or rows k d in
    let x : Placed = record { place = k; row = r } in
    let rest = placed_from (k + 1) (drop (k + 1) rows) in
    let front : rows_to stage q (take (k + 1) rows) ≡ rows_to stage q (take k rows) = ap (rows_to stage q) (take_more rows k d l) ∙ rows_to-other stage q (take k rows) r away in
    let back : rows_to stage q (drop k rows) ≡ rows_to stage q (drop (k + 1) rows) = ap (rows_to stage q) (drop_more rows k d l) ∙ rw away refl in
    let placed_front : placed_to stage q (placed_from 0 (take (k + 1) rows)) ≡ placed_to stage q (placed_from 0 (take k rows)) = ap (placed_to stage q) (placed-more rows k d l) ∙ to_other stage q (placed_from 0 (take k rows)) x away in
    let placed_back : placed_to stage q (placed_from k (drop k rows)) ≡ placed_to stage q rest = ap (placed_to stage q) (placed-left rows k d l) ∙ rw away refl in
    let same : causes_from stage q rows k ≡ causes_from stage q rows (k + 1) =
    ap (part_causes stage.op (placed_to stage q (placed_from 0 (take k rows)))) placed_back ∙ ap (λ (xs : List Placed). part_causes stage.op xs (placed_to stage q rest)) (sym placed_front) in
    record {
      took = subst (HasTaken stage.op p.state) (sym front) had;
      answers = ap (λ (rs : List Row). p.out ++ answers stage.op (alike (rows_to stage q (take k rows))) (alike rs ++ item.End 0 ∷ [])) back
          ∙ ap (λ (rs : List Row). p.out ++ answers stage.op (alike rs) (alike (rows_to stage q (drop (k + 1) rows)) ++ item.End 0 ∷ [])) (sym front);
      said = λ left all h. subst (λ (cs : List Cause). IsLeft stage rows p.said (cs ++ left) all) same h;
    }

-- a row that goes to this one
pub passed_here : (stage : Stage) (q : ℕ) (rows : List Row) (k : ℕ) (r d : Row) (p new : Passing) → k < length rows → r ≡ get_or rows k d
    → (route_of r stage.by stage.parts == q) ≡ true → HasTaken stage.op p.state (rows_to stage q (take k rows)) → new.state.spec ≡ p.state.spec
    → StandsFor new.state (alike (rows_to stage q (take k rows)) ++ item.Row 0 r ∷ []) → new.out ≡ p.out ++ answer stage.op (alike (rows_to stage q (take k rows))) (item.Row 0 r)
    → HasNoted stage rows (row_causes stage.op (placed_to stage q (placed_from 0 (take k rows))) (record { place = k; row = r })) p.said new.said
    → HasPassed stage q rows k p new
passed_here stage q rows k r d p new l here goes had spec stands gave told =
    let x : Placed = record { place = k; row = r } in
    let X = rows_to stage q (take k rows) in
    let B = placed_to stage q (placed_from 0 (take k rows)) in
    let later = drop (k + 1) rows in
    let rest = placed_to stage q (placed_from (k + 1) later) in
    let tail = alike (rows_to stage q later) ++ item.End 0 ∷ [] in
    let more : take (k + 1) rows ≡ take k rows ++ r ∷ [] = take_more rows k d l ∙ ap (λ (z : Row). take k rows ++ z ∷ []) (sym here) in
    let front : rows_to stage q (take (k + 1) rows) ≡ X ++ r ∷ [] = ap (rows_to stage q) more ∙ rows_to-here stage q (take k rows) r goes in
    let alike_front : alike (rows_to stage q (take (k + 1) rows)) ≡ alike X ++ item.Row 0 r ∷ [] = ap alike front ∙ alike_more X r in
    let whole : drop k rows ≡ r ∷ later = drop_more rows k d l ∙ ap (λ (z : Row). z ∷ later) (sym here) in
    let back : rows_to stage q (drop k rows) ≡ r ∷ rows_to stage q later = ap (rows_to stage q) whole ∙ rw goes refl in
    let placed_front : placed_to stage q (placed_from 0 (take (k + 1) rows)) ≡ B ++ x ∷ [] =
    ap (placed_to stage q) (placed-more rows k d l ∙ ap (λ (z : Row). placed_from 0 (take k rows) ++ record { place = k; row = z } ∷ []) (sym here)) ∙ to_here stage q (placed_from 0 (take k rows)) x goes in
    let placed_back : placed_to stage q (placed_from k (drop k rows)) ≡ x ∷ rest = ap (λ (rs : List Row). placed_to stage q (placed_from k rs)) whole ∙ rw goes refl in
    let next : causes_from stage q rows k ≡ row_causes stage.op B x ++ causes_from stage q rows (k + 1) =
    ap (part_causes stage.op B) placed_back ∙ ap (λ (xs : List Placed). row_causes stage.op B x ++ part_causes stage.op xs rest) (sym placed_front) in
    record {
      took = record { spec = spec ∙ had.spec; stands = subst (StandsFor new.state) (sym alike_front) stands };
      answers = ap (λ (rs : List Row). p.out ++ answers stage.op (alike X) (alike rs ++ item.End 0 ∷ [])) back
          ∙ (sym (append_assoc p.out (answer stage.op (alike X) (item.Row 0 r)) (answers stage.op (alike X ++ item.Row 0 r ∷ []) tail))
          ∙ (ap (λ (o : List Row). o ++ answers stage.op (alike X ++ item.Row 0 r ∷ []) tail) (sym gave) ∙ ap (λ (is : List Item). new.out ++ answers stage.op is tail) (sym alike_front)));
      said = goes_on stage rows (causes_from stage q rows k) (causes_from stage q rows k) (row_causes stage.op B x) (causes_from stage q rows (k + 1)) p.said p.said new.said next told (λ left all h. h);
    }
