-- What is noted of answers: they have their causes, one after the other.
use Rattle.std.proofs.Common.{ℕ, zero, suc, ◌≡◌, ◌<◌, ◌+◌, List, [], ◌∷◌, ◌++◌, Option, None, Some, append_assoc, drop, get_or, length, refl, sym, take, ap, ◌∙◌, arith, subst}
use Rattle.std.specs.Prelude.{slice_get}
use Rattle.std.proofs.lemmas.List.{append-nil, drop_all, take_all}
use Rattle.tuple_edge.specs.Row.{route_of}
use Rattle.tuple_edge.specs.declared.row.Row.{Row}
use Rattle.op_spec.specs.Spec.{IsSpec}
use Rattle.plan_reader.specs.declared.stage.Stage.{Stage}
use Rattle.row_cause.specs.Causes.{Cause, of_key, row_causes}
use Rattle.row_cause.specs.declared.placed.Placed.{Placed}
use Rattle.row_origin.specs.Stages.{causes_of, early_causes, placed_from, placed_to}
use Rattle.row_origin.proofs.Placing.{placed-left, placed-more}
use Rattle.cause_finder.specs.Trails.{keyed_by, own_among, resting}
use Rattle.cause_finder.proofs.CausesFound.{answers_of, as_many, ended_rests, speaker_is, there}
use Rattle.origin_finder.specs.Said.{AreCaused, HasNoted, IsCaused, IsLeft, IsNext, key_in, speaker_of, speakers_of}
use Rattle.origin_finder.specs.declared.said.Speaker.{Speaker}

-- ---- lists of causes

pub caused-append : (stage : Stage) (rows : List Row) (said more : List Speaker) (causes later : List Cause) → AreCaused stage rows said causes → AreCaused stage rows more later → AreCaused stage rows (said ++ more) (causes ++ later)
caused-append stage rows [] more [] later h g = g
caused-append stage rows [] more (c ∷ causes) later h g = absurd h
caused-append stage rows (s ∷ said) more [] later h g = absurd h
caused-append stage rows (s ∷ said) more (c ∷ causes) later h g = (h.0, caused-append stage rows said more causes later h.1 g)

-- the nth of them
pub caused_at : (stage : Stage) (rows : List Row) (said : List Speaker) (causes : List Cause) (n : ℕ) (s : Speaker) (c : Cause) → AreCaused stage rows said causes → slice_get said n ≡ Some s → slice_get causes n ≡ Some c
    → IsCaused stage rows s c
caused_at stage rows [] causes n s c h is at = absurd (nothing is)
  where
    nothing : None ≡ Some s → ⊥
    nothing e = cc
caused_at stage rows (t ∷ said) [] n s c h is at = absurd h
caused_at stage rows (t ∷ said) (d ∷ causes) zero s c h is at = subst (λ (z : Cause). IsCaused stage rows s z) (same d c at) (subst (λ (z : Speaker). IsCaused stage rows z d) (same t s is) h.0)
  where
    same : {X : Type 0} (x y : X) → Some x ≡ Some y → x ≡ y
    same x y e = cc
caused_at stage rows (t ∷ said) (d ∷ causes) (suc n) s c h is at = caused_at stage rows said causes n s c h.1 is at

pub caused_many : (stage : Stage) (rows : List Row) (said : List Speaker) (causes : List Cause) → AreCaused stage rows said causes → length said ≡ length causes
caused_many stage rows [] [] h = refl
caused_many stage rows [] (c ∷ causes) h = absurd h
caused_many stage rows (s ∷ said) [] h = absurd h
caused_many stage rows (s ∷ said) (c ∷ causes) h = ap suc (caused_many stage rows said causes h.1)

-- ---- one after the other

pub noted_more : (stage : Stage) (rows : List Row) (causes : List Cause) (said old new : List Speaker) → new ≡ old ++ said → AreCaused stage rows said causes → HasNoted stage rows causes old new
noted_more stage rows causes said old new is h left all l = record {
  done = l.done ++ causes;
  caused = subst (λ (ss : List Speaker). AreCaused stage rows ss (l.done ++ causes)) (sym is) (caused-append stage rows old said l.done causes l.caused h);
  whole = append_assoc l.done causes left ∙ l.whole;
}

-- where so much is left, and of it these causes are noted
pub goes_on : (stage : Stage) (rows : List Row) (whole had mine has : List Cause) (first old new : List Speaker) → had ≡ mine ++ has → HasNoted stage rows mine old new
    → ((left all : List Cause) → IsLeft stage rows first (whole ++ left) all → IsLeft stage rows old (had ++ left) all) → (left all : List Cause) → IsLeft stage rows first (whole ++ left) all → IsLeft stage rows new (has ++ left) all
goes_on stage rows whole had mine has first old new is notes so_far left all h =
    notes (has ++ left) all (subst (λ (cs : List Cause). IsLeft stage rows old cs all) (ap (λ (cs : List Cause). cs ++ left) is ∙ append_assoc mine has left) (so_far left all h))

-- nothing is left in the end
pub all_noted : (stage : Stage) (rows : List Row) (said : List Speaker) (all : List Cause) → IsLeft stage rows said [] all → AreCaused stage rows said all
all_noted stage rows said all h = subst (AreCaused stage rows said) (sym (append-nil h.done) ∙ h.whole) h.caused

pub none_noted : (stage : Stage) (rows : List Row) (all : List Cause) → IsLeft stage rows [] all all
none_noted stage rows all = record { done = []; caused = tt; whole = refl }

-- ---- the answers to one row or to the end

caused_one : (stage : Stage) (part : ℕ) (before rows : List Row) (spoke : Option Placed) (n : ℕ) (answer : Row) (c : Cause) → IsNext stage part rows before spoke
    → slice_get (answers_of stage.op (placed_to stage part (placed_from 0 before)) spoke) n ≡ Some answer → slice_get (causes_of stage.op (placed_to stage part (placed_from 0 before)) spoke) n ≡ Some c
    → IsCaused stage rows (speaker_of part spoke n answer) c
caused_one stage part before rows None n answer c next told at =
    let B = placed_to stage part (placed_from 0 before) in
    let k = key_in answer in
    let mine : of_key (keyed_by stage.op) k B ≡ own_among stage rows (length rows) part k =
    ap (λ (rs : List Row). of_key (keyed_by stage.op) k (placed_to stage part (placed_from 0 rs))) (next ∙ sym (take_all (length rows) rows (omega arith))) in
    (speaker_is stage.op B None n c at, sym (ended_rests stage.op B n answer k refl refl told c at) ∙ ap (resting stage.op) mine)
caused_one stage part before rows (Some r) n answer c next told at =
    let where_to : placed_to stage part (placed_from 0 before) ≡ placed_to stage (route_of r.row stage.by stage.parts) (placed_from 0 (take r.place rows)) =
    ap (λ (rs : List Row). placed_to stage part (placed_from 0 rs)) next.0 ∙ ap (λ (q : ℕ). placed_to stage q (placed_from 0 (take r.place rows))) (sym next.2) in
    (r.row, next.1, ap (λ (xs : List Placed). slice_get (row_causes stage.op xs r) n) (sym where_to) ∙ at)

caused_from : (stage : Stage) (part : ℕ) (before rows : List Row) (spoke : Option Placed) (m k : ℕ) → IsNext stage part rows before spoke
    → k + m ≡ length (answers_of stage.op (placed_to stage part (placed_from 0 before)) spoke) → k + m ≡ length (causes_of stage.op (placed_to stage part (placed_from 0 before)) spoke)
    → AreCaused stage rows (speakers_of part spoke k (drop k (answers_of stage.op (placed_to stage part (placed_from 0 before)) spoke))) (drop k (causes_of stage.op (placed_to stage part (placed_from 0 before)) spoke))
caused_from stage part before rows spoke zero k next many all =
    let answers = answers_of stage.op (placed_to stage part (placed_from 0 before)) spoke in
    let causes = causes_of stage.op (placed_to stage part (placed_from 0 before)) spoke in
    subst (λ (rs : List Row). AreCaused stage rows (speakers_of part spoke k rs) (drop k causes)) (sym (drop_all k answers (omega (arith, many))))
    (subst (λ (cs : List Cause). AreCaused stage rows [] cs) (sym (drop_all k causes (omega (arith, all)))) tt)
caused_from stage part before rows spoke (suc m) k next many all =
    let answers = answers_of stage.op (placed_to stage part (placed_from 0 before)) spoke in
    let causes = causes_of stage.op (placed_to stage part (placed_from 0 before)) spoke in
    let a = there answers k (omega (arith, many)) in
    let c = there causes k (omega (arith, all)) in
    subst (λ (rs : List Row). AreCaused stage rows (speakers_of part spoke k rs) (drop k causes)) (sym a.2)
    (subst (λ (cs : List Cause). AreCaused stage rows (speakers_of part spoke k (a.0 ∷ drop (k + 1) answers)) cs) (sym c.2)
    (caused_one stage part before rows spoke k a.0 c.0 next a.1 c.1, caused_from stage part before rows spoke m (k + 1) next (omega (arith, many)) (omega (arith, all))))

-- what is noted of all of them
pub answers_noted : (stage : Stage) (part : ℕ) (before rows : List Row) (spoke : Option Placed) (old new : List Speaker) → IsSpec stage.op → IsNext stage part rows before spoke
    → new ≡ old ++ speakers_of part spoke 0 (answers_of stage.op (placed_to stage part (placed_from 0 before)) spoke)
    → HasNoted stage rows (causes_of stage.op (placed_to stage part (placed_from 0 before)) spoke) old new
answers_noted stage part before rows spoke old new limits next is =
    let answers = answers_of stage.op (placed_to stage part (placed_from 0 before)) spoke in
    let causes = causes_of stage.op (placed_to stage part (placed_from 0 before)) spoke in
    noted_more stage rows causes (speakers_of part spoke 0 answers) old new is
    (caused_from stage part before rows spoke (length answers) 0 next (omega arith) (omega (arith, as_many stage.op (placed_to stage part (placed_from 0 before)) spoke limits)))

-- ---- what is left of early rows, one row later

pub early_next : (stage : Stage) (rows : List Row) (k : ℕ) (r d : Row) → k < length rows → r ≡ get_or rows k d
    → early_causes stage (placed_from 0 (take k rows)) (placed_from k (drop k rows))
    ≡ row_causes stage.op (placed_to stage (route_of r stage.by stage.parts) (placed_from 0 (take k rows))) (record { place = k; row = r })
    ++ early_causes stage (placed_from 0 (take (k + 1) rows)) (placed_from (k + 1) (drop (k + 1) rows))
early_next stage rows k r d l here =
    let x : Placed = record { place = k; row = r } in
    let B = placed_from 0 (take k rows) in
    let rest = placed_from (k + 1) (drop (k + 1) rows) in
    let left : placed_from k (drop k rows) ≡ x ∷ rest = placed-left rows k d l ∙ ap (λ (z : Row). record { place = k; row = z } ∷ rest) (sym here) in
    let more : B ++ x ∷ [] ≡ placed_from 0 (take (k + 1) rows) = ap (λ (z : Row). B ++ record { place = k; row = z } ∷ []) here ∙ sym (placed-more rows k d l) in
    ap (early_causes stage B) left
    ∙ ap (λ (xs : List Placed). row_causes stage.op (placed_to stage (route_of r stage.by stage.parts) B) x ++ early_causes stage xs rest) more
