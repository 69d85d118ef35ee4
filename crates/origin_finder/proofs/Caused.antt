-- What is told of an answer: the roles of the rows of its cause.
use Rattle.std.proofs.Common.{ℕ, zero, suc, ◌≡◌, ◌≤◌, ◌+◌, Bool, true, false, cond, List, [], ◌∷◌, Option, None, Some, drop, length, refl, sym, take, ap, ◌∙◌, arith, subst, length-append}
use Rattle.std.specs.Prelude.{filter, replicate, slice_get}
use Rattle.std.proofs.lemmas.List.{drop_all, take-append-drop}
use Rattle.tuple_edge.specs.Row.{route_of}
use Rattle.tuple_edge.specs.declared.row.Row.{Row}
use Rattle.op_spec.specs.Keys.{is_key, key_of}
use Rattle.op_spec.specs.Spec.{is_join}
use Rattle.op_spec.specs.declared.spec.OpSpec.{OpSpec}
use Rattle.plan_reader.specs.declared.stage.Stage.{Stage}
use Rattle.row_cause.specs.Causes.{Cause, row_causes, spoke}
use Rattle.row_cause.specs.declared.placed.Placed.{Placed}
use Rattle.row_origin.specs.Marks.{Roles, marked, with_causes}
use Rattle.row_origin.specs.Stages.{placed_from, placed_to}
use Rattle.cause_finder.specs.Trails.{keyed_by, own_among, own_before, own_of, resting}
use Rattle.cause_finder.proofs.CausesFound.{none_some, of_some, row_rests, speaker_is}
use Rattle.cause_finder.proofs.TrailSteps.{own-some}
use Rattle.origin_finder.specs.Counting.{speaker_counts}
use Rattle.origin_finder.specs.Said.{IsCaused}
use Rattle.origin_finder.specs.Walking.{AreReached, counting}
use Rattle.origin_finder.specs.declared.said.Speaker.TheVariants as speaker
use Rattle.origin_finder.proofs.Marking.{one_cause}

-- ---- at first nothing is reached

few_by : {X : Type 0} (x : X) (xs ys : List X) (t : Bool) → length ys ≤ length xs → length (cond t (x ∷ ys) ys) ≤ length (x ∷ xs)
few_by x xs ys true h = omega (arith, h)
few_by x xs ys false h = omega (arith, h)

filter_few : {X : Type 0} (p : X → Bool) (xs : List X) → length (filter p xs) ≤ length xs
filter_few p [] = omega arith
filter_few p (x ∷ xs) = few_by x xs (filter p xs) (p x) (filter_few p xs)

placed_many : (n : ℕ) (rows : List Row) → length (placed_from n rows) ≡ length rows
placed_many n [] = refl
placed_many n (r ∷ rows) = ap suc (placed_many (n + 1) rows)

own_few : (stage : Stage) (rows : List Row) (n : ℕ) (o : Option Row) → length (own_of stage rows n o) ≤ length rows
own_few stage rows n None = omega arith
own_few stage rows n (Some r) =
    let q = route_of r stage.by stage.parts in
    let k = key_of (keyed_by stage.op) r in
    let placed = placed_from 0 (take n rows) in
    let one : length (own_among stage rows n q k) ≤ length (placed_to stage q placed) = filter_few (λ (x : Placed). is_key (key_of (keyed_by stage.op) x.row) k) (placed_to stage q placed) in
    let two : length (placed_to stage q placed) ≤ length placed = filter_few _ placed in
    omega (arith, one, two, placed_many 0 (take n rows), ap length (take-append-drop n rows), length-append (take n rows) (drop n rows))

repeated : {X : Type 0} (n : ℕ) (x : X) (p : ℕ) (z : X) → slice_get (replicate n x) p ≡ Some z → z ≡ x
repeated zero x p z e = absurd (none_some z e)
repeated (suc n) x zero z e = sym (of_some x z e)
repeated (suc n) x (suc p) z e = repeated n x p z e

repeated_many : {X : Type 0} (n : ℕ) (x : X) → length (replicate n x) ≡ n
repeated_many zero x = refl
repeated_many (suc n) x = ap suc (repeated_many n x)

pub nothing_reached : (stage : Stage) (rows : List Row) (reached : List ℕ) (roles : Roles) → reached ≡ replicate (length rows) (length rows) → AreReached stage rows reached roles
nothing_reached stage rows reached roles is = record {
  whole = ap length is ∙ repeated_many (length rows) (length rows);
  each = λ place low at.
      let all : low ≡ length rows = repeated (length rows) (length rows) place low (ap (λ (ns : List ℕ). slice_get ns place) (sym is) ∙ at) in
      ap (λ (xs : List Placed). counting xs roles) (drop_all low (own_before stage rows place) (omega (arith, all, own_few stage rows place (slice_get rows place))));
}

-- ---- roles

pub both_marked : (placed : List Placed) (old new : Roles) → new.rests ≡ marked placed old.rests → new.counts ≡ marked placed old.counts → new ≡ counting placed old
both_marked placed old new a b = λ i. record { rests = a i; counts = b i }

cond_same : {X : Type 0} (t : Bool) (x : X) → x ≡ cond t x x
cond_same true x = refl
cond_same false x = refl

-- where the end spoke
pub ended_cause : (op : OpSpec) (c : Cause) (old new : Roles) (placed : List Placed) → c.speaker ≡ None → c.before ≡ placed → new ≡ counting placed old → new ≡ with_causes op (c ∷ []) old
ended_cause op c old new placed none before is =
    one_cause op c old new
    (ap (λ (r : Roles). r.rests) is ∙ (ap (λ (xs : List Placed). marked xs old.rests) (sym before) ∙ sym (ap (λ (s : Option Placed). marked (spoke s) (marked c.before old.rests)) none)))
    (ap (λ (r : Roles). r.counts) is
    ∙ (ap (λ (xs : List Placed). marked xs old.counts) (sym before)
    ∙ (cond_same (speaker_counts op) (marked c.before old.counts) ∙ sym (ap (λ (s : Option Placed). cond (speaker_counts op) (marked (spoke s) (marked c.before old.counts)) (marked c.before old.counts)) none))))

-- where a row spoke
pub spoken_cause : (op : OpSpec) (B : List Placed) (r : Placed) (n : ℕ) (c : Cause) (old mid new : Roles) → slice_get (row_causes op B r) n ≡ Some c → mid ≡ counting c.before old → new.rests ≡ marked (spoke (Some r)) mid.rests
    → new.counts ≡ cond (speaker_counts op) (marked (spoke (Some r)) mid.counts) mid.counts → new ≡ with_causes op (c ∷ []) old
spoken_cause op B r n c old mid new at is rests counts =
    let who : c.speaker ≡ Some r = speaker_is op B (Some r) n c at in
    one_cause op c old new (rests ∙ (ap (λ (s : Option Placed). marked (spoke s) mid.rests) (sym who) ∙ ap (λ (m : Roles). marked (spoke c.speaker) m.rests) is))
    (counts
    ∙ (ap (λ (s : Option Placed). cond (speaker_counts op) (marked (spoke s) mid.counts) mid.counts) (sym who) ∙ ap (λ (m : Roles). cond (speaker_counts op) (marked (spoke c.speaker) m.counts) m.counts) is))

-- the rows before of an answer that is none of a join
pub own_cause : (stage : Stage) (rows : List Row) (r : Placed) (n : ℕ) (c : Cause) → slice_get rows r.place ≡ Some r.row → is_join stage.op ≡ false
    → slice_get (row_causes stage.op (placed_to stage (route_of r.row stage.by stage.parts) (placed_from 0 (take r.place rows))) r) n ≡ Some c → resting stage.op (own_before stage rows r.place) ≡ c.before
own_cause stage rows r n c row other at =
    ap (resting stage.op) (own-some stage rows r.place (slice_get rows r.place) r.row row)
    ∙ row_rests stage.op (placed_to stage (route_of r.row stage.by stage.parts) (placed_from 0 (take r.place rows))) r n other c at

-- the cause of an answer to a row that is there
pub row_caused : (stage : Stage) (rows : List Row) (place n : ℕ) (row : Row) (c : Cause) → slice_get rows place ≡ Some row → IsCaused stage rows (speaker.Row place n) c
    → slice_get (row_causes stage.op (placed_to stage (route_of row stage.by stage.parts) (placed_from 0 (take place rows))) (record { place = place; row = row })) n ≡ Some c
row_caused stage rows place n row c at h =
    subst (λ (r : Row). slice_get (row_causes stage.op (placed_to stage (route_of r stage.by stage.parts) (placed_from 0 (take place rows))) (record { place = place; row = r })) n ≡ Some c) (of_some h.0 row (sym h.1 ∙ at)) h.2

pub not_caused : (stage : Stage) (rows : List Row) (place n : ℕ) (c : Cause) → slice_get rows place ≡ None → IsCaused stage rows (speaker.Row place n) c → ⊥
not_caused stage rows place n c none h = none_some h.0 (sym none ∙ h.1)
