-- Marks along trails: the order of marks changes nothing, and what is marked stays marked.
use Rattle.std.proofs.Common.{ℕ, zero, suc, ◌≡◌, ◌<◌, ◌≤◌, ◌+◌, ◌-◌, Bool, true, false, cond, List, [], ◌∷◌, ◌++◌, Option, None, Some, drop, length, refl, set, sym, take, ap, ◌∙◌, arith, subst}
use Rattle.std.specs.Prelude.{slice_get}
use Rattle.std.proofs.lemmas.Bool.{leb-true}
use Rattle.std.proofs.lemmas.List.{drop-append-le, drop_all, length-set, take-append-drop}
use Rattle.std.proofs.lemmas.Option.{get_or_from_slice_get}
use Rattle.tuple_edge.specs.declared.row.Row.{Row}
use Rattle.op_spec.specs.declared.spec.OpSpec.{OpSpec}
use Rattle.op_spec.specs.declared.spec.OpSpec.TheVariants as op
use Rattle.plan_reader.specs.declared.stage.Stage.{Stage}
use Rattle.row_cause.specs.declared.placed.Placed.{Placed}
use Rattle.row_origin.specs.Marks.{Roles, marked}
use Rattle.cause_finder.specs.Trails.{AreTrails, IsBelow, KeyTrails, chain, own_before, own_upto, resting}
use Rattle.cause_finder.specs.declared.trails.Trail.{Trail}
use Rattle.cause_finder.proofs.CausesFound.{none_some, of_some, there}
use Rattle.cause_finder.proofs.TrailSteps.{size_more, upto_is}
use Rattle.origin_finder.specs.Walking.{AreReached, HasTrail, IsMarkedBack, IsMarkedNext, chain_from, counting, from_of, is_within}
use Rattle.origin_finder.proofs.Marking.{marked-append}

-- ---- marks

set-swap : (marks : List Bool) (a b : ℕ) → set (set marks a true) b true ≡ set (set marks b true) a true
set-swap [] a b = refl
set-swap (m ∷ marks) zero zero = refl
set-swap (m ∷ marks) zero (suc b) = refl
set-swap (m ∷ marks) (suc a) zero = refl
set-swap (m ∷ marks) (suc a) (suc b) = ap (λ (rest : List Bool). m ∷ rest) (set-swap marks a b)

set-twice : (marks : List Bool) (a : ℕ) → set (set marks a true) a true ≡ set marks a true
set-twice [] a = refl
set-twice (m ∷ marks) zero = refl
set-twice (m ∷ marks) (suc a) = ap (λ (rest : List Bool). m ∷ rest) (set-twice marks a)

marked-set : (placed : List Placed) (marks : List Bool) (a : ℕ) → marked placed (set marks a true) ≡ set (marked placed marks) a true
marked-set [] marks a = refl
marked-set (x ∷ placed) marks a = ap (marked placed) (set-swap marks a x.place) ∙ marked-set placed (set marks x.place true) a

marked-swap : (xs ys : List Placed) (marks : List Bool) → marked xs (marked ys marks) ≡ marked ys (marked xs marks)
marked-swap xs [] marks = refl
marked-swap xs (y ∷ ys) marks = marked-swap xs ys (set marks y.place true) ∙ ap (marked ys) (marked-set xs marks y.place)

marked-twice : (placed : List Placed) (marks : List Bool) → marked placed (marked placed marks) ≡ marked placed marks
marked-twice [] marks = refl
marked-twice (x ∷ placed) marks =
    ap (marked placed) (sym (marked-set placed (set marks x.place true) x.place))
    ∙ (marked-twice placed (set (set marks x.place true) x.place true) ∙ ap (marked placed) (set-twice marks x.place))

-- ---- roles

abbrev roles : List Bool → List Bool → Roles
roles rests counts = record { rests = rests; counts = counts }

both : (a b c d : List Bool) → a ≡ b → c ≡ d → roles a c ≡ roles b d
both a b c d x y = λ i. roles (x i) (y i)

counting-append : (xs ys : List Placed) (r : Roles) → counting (xs ++ ys) r ≡ counting ys (counting xs r)
counting-append xs ys r =
    both (marked (xs ++ ys) r.rests) (marked ys (marked xs r.rests)) (marked (xs ++ ys) r.counts) (marked ys (marked xs r.counts)) (marked-append xs ys r.rests) (marked-append xs ys r.counts)

counting-swap : (xs ys : List Placed) (r : Roles) → counting xs (counting ys r) ≡ counting ys (counting xs r)
counting-swap xs ys r =
    both (marked xs (marked ys r.rests)) (marked ys (marked xs r.rests)) (marked xs (marked ys r.counts)) (marked ys (marked xs r.counts)) (marked-swap xs ys r.rests) (marked-swap xs ys r.counts)

pub counting-twice : (xs : List Placed) (r : Roles) → counting xs (counting xs r) ≡ counting xs r
counting-twice xs r =
    both (marked xs (marked xs r.rests)) (marked xs r.rests) (marked xs (marked xs r.counts)) (marked xs r.counts) (marked-twice xs r.rests) (marked-twice xs r.counts)

-- what is marked stays marked
pub stays_marked : (xs ys : List Placed) (r : Roles) → counting xs r ≡ r → counting xs (counting ys r) ≡ counting ys r
stays_marked xs ys r h = counting-swap xs ys r ∙ ap (counting ys) h

-- and so does a part of it
part_marked : (xs ys : List Placed) (r : Roles) → counting (xs ++ ys) r ≡ r → counting ys r ≡ r
part_marked xs ys r h =
    ap (counting ys) (sym h ∙ counting-append xs ys r)
    ∙ (counting-twice ys (counting xs r) ∙ (sym (counting-append xs ys r) ∙ h))

later_part : (from low : ℕ) (placed : List Placed) → from ≤ low → (front : List Placed) × (drop from placed ≡ front ++ drop low placed)
later_part zero low placed l = (take low placed, sym (take-append-drop low placed))
later_part (suc from) low [] l = ([], sym (drop_all low [] (omega arith)))
later_part (suc from) zero (x ∷ placed) l = absurd (omega arith)
later_part (suc from) (suc low) (x ∷ placed) l = later_part from low placed (omega arith)

pub from_marked : (from low : ℕ) (placed : List Placed) (r : Roles) → from ≤ low → counting (drop from placed) r ≡ r → counting (drop low placed) r ≡ r
from_marked from low placed r l h =
    let part = later_part from low placed l in
    part_marked part.0 (drop low placed) r (ap (λ (xs : List Placed). counting xs r) (sym part.1) ∙ h)

-- ---- what is reached

pub reached_more : (stage : Stage) (rows : List Row) (reached : List ℕ) (old new : Roles) (placed : List Placed) → new ≡ counting placed old → AreReached stage rows reached old → AreReached stage rows reached new
reached_more stage rows reached old new placed is h = record {
  whole = h.whole;
  each = λ place low at. subst (λ (r : Roles). counting (drop low (own_before stage rows place)) r ≡ r) (sym is) (stays_marked (drop low (own_before stage rows place)) placed old (h.each place low at));
}

-- marks of rows that rest, where some of them don't count
pub reached_spoke : (stage : Stage) (rows : List Row) (reached : List ℕ) (old new : Roles) (placed : List Placed) (t : Bool) → new.rests ≡ marked placed old.rests → new.counts ≡ cond t (marked placed old.counts) old.counts
    → AreReached stage rows reached old → AreReached stage rows reached new
reached_spoke stage rows reached old new placed t rests counts h = record {
  whole = h.whole;
  each = λ place low at.
      let D = drop low (own_before stage rows place) in
      let had = h.each place low at in
      let a : marked D old.rests ≡ old.rests = ap (λ (r : Roles). r.rests) had in
      let b : marked D old.counts ≡ old.counts = ap (λ (r : Roles). r.counts) had in
      both (marked D new.rests) new.rests (marked D new.counts) new.counts (ap (marked D) rests ∙ (marked-swap D placed old.rests ∙ (ap (marked placed) a ∙ sym rests)))
      (ap (marked D) counts ∙ (counted t D b ∙ sym counts));
}
  where
    counted : (t : Bool) (D : List Placed) → marked D old.counts ≡ old.counts → marked D (cond t (marked placed old.counts) old.counts) ≡ cond t (marked placed old.counts) old.counts
    counted true D b = marked-swap D placed old.counts ∙ ap (marked placed) b
    counted false D b = b

-- what holds at each place of a list holds where one of them is set
set_at : {X : Type 0} (P : ℕ → X → Type 0) (xs : List X) (i : ℕ) (y : X) → ((p : ℕ) (z : X) → slice_get xs p ≡ Some z → P p z) → P i y → (p : ℕ) (z : X) → slice_get (set xs i y) p ≡ Some z → P p z
set_at P [] i y had new p z e = absurd (none_some z e)
set_at P (x ∷ xs) zero y had new zero z e = subst (P 0) (of_some y z e) new
set_at P (x ∷ xs) zero y had new (suc p) z e = had (suc p) z e
set_at P (x ∷ xs) (suc i) y had new zero z e = had 0 z e
set_at P (x ∷ xs) (suc i) y had new (suc p) z e = set_at (λ (n : ℕ) (w : _). P (suc n) w) xs i y (λ (n : ℕ) (w : _) (h : _). had (suc n) w h) new p z e

pub reached_set : (stage : Stage) (rows : List Row) (reached : List ℕ) (roles : Roles) (place low : ℕ) → counting (drop low (own_before stage rows place)) roles ≡ roles → AreReached stage rows reached roles
    → AreReached stage rows (set reached place low) roles
reached_set stage rows reached roles place low new h = record {
  whole = length-set reached place low ∙ h.whole;
  each = set_at (λ (p n : ℕ). counting (drop n (own_before stage rows p)) roles ≡ roles) reached place low h.each new;
}

-- ---- one row

pub trail_of : (stage : Stage) (rows : List Row) (known : KeyTrails) (place : ℕ) (trail : Trail) → AreTrails stage rows known → place < length rows → slice_get known.trails place ≡ Some trail → HasTrail stage rows known place trail
trail_of stage rows known place trail h l at =
    let found = there rows place l in
    record {
      row = found.0;
      at = found.1;
      is = h.each place found.0 trail found.1 at;
      upto = upto_is stage rows place found.0 found.0 l found.1 (sym (get_or_from_slice_get rows place found.0 found.0 found.1));
    }

pub trail_there : (stage : Stage) (rows : List Row) (known : KeyTrails) (place : ℕ) → AreTrails stage rows known → place < length rows → None ≡ slice_get known.trails place → ⊥
trail_there stage rows known place h l is =
    let found = there known.trails place (omega (arith, l, h.whole)) in
    none_some found.0 (is ∙ found.1)

-- no row of its key before it is wanted, nor itself
pub next_past : (stage : Stage) (rows : List Row) (known : KeyTrails) (low place : ℕ) (reached : List ℕ) (roles : Roles) (trail : Trail) → HasTrail stage rows known place trail → trail.count < low
    → AreReached stage rows reached roles → IsMarkedNext stage rows low place reached roles roles None
next_past stage rows known low place reached roles trail h past had =
    let x : Placed = record { place = place; row = h.row } in
    let none : drop low (own_upto stage rows place) ≡ [] = drop_all low (own_upto stage rows place) (omega (arith, past, ap length h.upto, size_more (own_before stage rows place) x, h.is.tells.count)) in
    record { left = ap (λ (xs : List Placed). counting xs roles) (none ∙ sym (drop_all low [] (omega arith))); stays = had }

-- it is marked
marked_one : (stage : Stage) (rows : List Row) (known : KeyTrails) (low place : ℕ) (old new : Roles) (trail : Trail) → HasTrail stage rows known place trail → low ≤ trail.count
    → new ≡ roles (set old.rests place true) (set old.counts place true) → counting (chain_from stage rows low (Some place)) old ≡ counting (drop low (own_before stage rows place)) new
marked_one stage rows known low place old new trail h few is =
    let x : Placed = record { place = place; row = h.row } in
    let B = own_before stage rows place in
    ap (λ (xs : List Placed). counting xs old) (ap (drop low) h.upto ∙ drop-append-le low B (x ∷ []) (omega (arith, few, h.is.tells.count)))
    ∙ (counting-append (drop low B) (x ∷ []) old ∙ (counting-swap (x ∷ []) (drop low B) old ∙ ap (counting (drop low B)) (sym is)))

pub next_marked : (stage : Stage) (rows : List Row) (known : KeyTrails) (low place : ℕ) (reached : List ℕ) (old new : Roles) (trail : Trail) → HasTrail stage rows known place trail → low ≤ trail.count
    → new ≡ roles (set old.rests place true) (set old.counts place true) → AreReached stage rows reached old → IsMarkedNext stage rows low place reached old new trail.before
next_marked stage rows known low place reached old new trail h few is had = record {
  left = marked_one stage rows known low place old new trail h few is ∙ ap (λ (xs : List Placed). counting (drop low xs) new) h.is.own;
  stays = reached_more stage rows reached old new (let x : Placed = record { place = place; row = h.row } in x ∷ []) is had;
}

-- and those before it are marked already
reaches : (low : ℕ) (o : Option ℕ) → is_within low o ≡ true → (from : ℕ) × (o ≡ Some from) × (from ≤ low)
reaches low None e = absurd (differs e)
  where
    differs : false ≡ true → ⊥
    differs e = cc
reaches low (Some from) e = (from, refl, leb-true from low e)

pub next_reached : (stage : Stage) (rows : List Row) (known : KeyTrails) (low place : ℕ) (reached : List ℕ) (old new : Roles) (trail : Trail) → HasTrail stage rows known place trail → low ≤ trail.count
    → new ≡ roles (set old.rests place true) (set old.counts place true) → is_within low (slice_get reached place) ≡ true → AreReached stage rows reached old
    → IsMarkedNext stage rows low place reached old new None
next_reached stage rows known low place reached old new trail h few is within had =
    let B = own_before stage rows place in
    let stays : AreReached stage rows reached new = reached_more stage rows reached old new (let x : Placed = record { place = place; row = h.row } in x ∷ []) is had in
    let from = reaches low (slice_get reached place) within in
    record {
      left = marked_one stage rows known low place old new trail h few is
          ∙ (from_marked from.0 low B new from.2 (stays.each place from.0 from.1) ∙ ap (λ (xs : List Placed). counting xs new) (sym (drop_all low [] (omega arith))));
      stays = stays;
    }

-- ---- all that are wanted

pub resting_none : (spec : OpSpec) → resting spec [] ≡ []
resting_none (op.Keep column compare limit) = refl
resting_none (op.Total by) = refl
resting_none (op.Last by n) = drop_all (0 - (n - 1)) [] (omega arith)
resting_none (op.Window by width) = refl
resting_none (op.Crossing by limit) = refl
resting_none (op.Join by width n column compare limit) = refl

-- the rows on which the answer to a row rests were marked, and it is kept from which on
pub own_marked : (stage : Stage) (rows : List Row) (reached : List ℕ) (place low : ℕ) (o : Option ℕ) (old new : Roles) → own_before stage rows place ≡ chain stage rows o → resting stage.op (chain stage rows o) ≡ chain_from stage rows low o
    → IsMarkedBack stage rows reached (resting stage.op (chain stage rows o)) old new → IsMarkedBack stage rows (set reached place low) (resting stage.op (own_before stage rows place)) old new
own_marked stage rows reached place low o old new is from h =
    let whole : new ≡ counting (resting stage.op (own_before stage rows place)) old = h.whole ∙ ap (λ (xs : List Placed). counting (resting stage.op xs) old) (sym is) in
    let mine : drop low (own_before stage rows place) ≡ resting stage.op (own_before stage rows place) = ap (drop low) is ∙ (sym from ∙ ap (resting stage.op) (sym is)) in
    record {
      whole = whole;
      stays = reached_set stage rows reached new place low
          (ap (λ (xs : List Placed). counting xs new) mine ∙ (ap (counting (resting stage.op (own_before stage rows place))) whole ∙ (counting-twice (resting stage.op (own_before stage rows place)) old ∙ sym whole))) h.stays;
    }

-- ---- places

-- how many rows there are up to a place
abbrev pub up_to : Option ℕ → ℕ
up_to None = 0
up_to (Some place) = place + 1

pub goes_back : (place : ℕ) (at next : Option ℕ) → at ≡ Some place → IsBelow place next → up_to next < up_to at
goes_back place None next is back = absurd (none_some place is)
goes_back place (Some p) None is back = omega arith
goes_back place (Some p) (Some q) is back = omega (arith, back, of_some p place is)

pub below_less : (place n : ℕ) (next : Option ℕ) → place < n → IsBelow place next → IsBelow n next
below_less place n None l back = tt
below_less place n (Some q) l back = omega (arith, l, back)

pub below_at : (place n : ℕ) (at : Option ℕ) → at ≡ Some place → IsBelow n at → place < n
below_at place n None is below = absurd (none_some place is)
below_at place n (Some p) is below = omega (arith, below, of_some p place is)

pub nothing_marked : (stage : Stage) (rows : List Row) (low : ℕ) (at : Option ℕ) (r : Roles) → at ≡ None → counting (chain_from stage rows low at) r ≡ r
nothing_marked stage rows low None r is = ap (λ (xs : List Placed). counting xs r) (drop_all low [] (omega arith))
nothing_marked stage rows low (Some p) r is = absurd (none_some p (sym is))

-- ---- from which number on

pub from_is : (stage : Stage) (rows : List Row) (known : KeyTrails) (place : ℕ) (o : Option Trail) → AreTrails stage rows known → place < length rows → o ≡ slice_get known.trails place
    → resting stage.op (own_upto stage rows place) ≡ drop (from_of o) (own_upto stage rows place)
from_is stage rows known place None h l is = absurd (trail_there stage rows known place h l is)
from_is stage rows known place (Some trail) h l is =
    let has = trail_of stage rows known place trail h l (sym is) in
    ap (resting stage.op) has.upto ∙ (has.is.tells.from ∙ ap (drop trail.from) (sym has.upto))

pub none_from : (stage : Stage) (rows : List Row) (o : Option ℕ) → o ≡ None → resting stage.op (chain stage rows o) ≡ chain_from stage rows 0 o
none_from stage rows None is = resting_none stage.op
none_from stage rows (Some p) is = absurd (none_some p (sym is))

pub some_from : (stage : Stage) (rows : List Row) (known : KeyTrails) (place : ℕ) (o : Option ℕ) (found : Option Trail) (from : ℕ) → o ≡ Some place → AreTrails stage rows known → IsBelow (length rows) o
    → found ≡ slice_get known.trails place → from ≡ from_of found → resting stage.op (chain stage rows o) ≡ chain_from stage rows from o
some_from stage rows known place None found from is h below at e = absurd (none_some place is)
some_from stage rows known place (Some p) found from is h below at e =
    from_is stage rows known p found h below (at ∙ ap (slice_get known.trails) (sym (of_some p place is))) ∙ ap (λ (n : ℕ). drop n (own_upto stage rows p)) (sym e)
