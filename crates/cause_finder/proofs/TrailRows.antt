-- The trails of the first rows, with one row more.
use Rattle.std.proofs.Common.{ℕ, zero, suc, ◌≡◌, ◌<◌, ◌≤◌, ◌+◌, Bool, true, false, cond, List, [], ◌∷◌, ◌++◌, Option, None, Some, length, get_or, refl, sym, ap, ◌∙◌, subst, arith, length-append}
use Rattle.std.specs.Prelude.{◌&&◌, ◌==◌, slice_get}
use Rattle.std.proofs.lemmas.Bool.{and_parts, eqb-true}
use Rattle.std.proofs.lemmas.List.{append-nil}
use Rattle.std.proofs.lemmas.Option.{get_or_from_slice_get, slice_get-get_or}
use Rattle.tuple_edge.specs.Row.{route_of}
use Rattle.tuple_edge.specs.declared.row.Key.{Key}
use Rattle.tuple_edge.specs.declared.row.Row.{Row}
use Rattle.op_spec.specs.Keys.{is_key, key_of}
use Rattle.plan_reader.specs.declared.stage.Stage.{Stage}
use Rattle.stream_ops.proofs.Keyed.{same_key}
use Rattle.row_cause.specs.declared.placed.Placed.{Placed}
use Rattle.row_origin.proofs.Placing.{keyed-more}
use Rattle.cause_finder.specs.Trails.{GoBack, IsBelow, IsTrail, Tells, chain, keyed_by, own_among, own_before, own_upto}
use Rattle.cause_finder.specs.declared.trails.Trail.{Trail}
use Rattle.cause_finder.proofs.CausesFound.{none_some, of_some, there}
use Rattle.cause_finder.proofs.TrailSteps.{own-some, size_more, upto_is}

-- the first rows are known, of which there are so many
pub record AreTrailed (stage : Stage) (rows : List Row) (place : ℕ) (trails : List Trail) (last : ℕ → Key → Option ℕ) : Type 0 where
  pub many : length trails ≡ place
  pub each : (p : ℕ) (trail : Trail) → slice_get trails p ≡ Some trail → (r : Row) → slice_get rows p ≡ Some r → IsTrail stage rows p r trail
  pub few : (p : ℕ) (trail : Trail) → slice_get trails p ≡ Some trail → trail.count ≤ p
  pub back : GoBack trails
  pub below : (q : ℕ) (k : Key) → IsBelow place (last q k)
  pub own : (q : ℕ) (k : Key) → own_among stage rows place q k ≡ chain stage rows (last q k)

-- what holds at each place of a list holds with one more behind it
pushed : {X : Type 0} (P : ℕ → X → Type 0) (xs : List X) (y : X) → ((p : ℕ) (z : X) → slice_get xs p ≡ Some z → P p z) → P (length xs) y → (p : ℕ) (z : X) → slice_get (xs ++ y ∷ []) p ≡ Some z → P p z
pushed P [] y had new zero z e = subst (P 0) (of_some y z e) new
pushed P [] y had new (suc p) z e = absurd (none_some z e)
pushed P (x ∷ xs) y had new zero z e = had 0 z e
pushed P (x ∷ xs) y had new (suc p) z e = pushed (λ (n : ℕ) (w : _). P (suc n) w) xs y (λ (n : ℕ) (w : _) (h : _). had (suc n) w h) new p z e

below_by : (n : ℕ) (t : Bool) (o : Option ℕ) → IsBelow n o → IsBelow (n + 1) (cond t (Some n) o)
below_by n true o h = omega arith
below_by n false None h = tt
below_by n false (Some place) h = omega (arith, h)

-- a row of a place
row_is : (rows : List Row) (place : ℕ) (d : Row) → place < length rows → slice_get rows place ≡ Some (get_or rows place d)
row_is rows place d l = slice_get-get_or rows place d l

-- the trail of the next row
trail_by : (stage : Stage) (rows : List Row) (place : ℕ) (trails : List Trail) (last : ℕ → Key → Option ℕ) (r d : Row) (trail : Trail) (o : Option ℕ) → AreTrailed stage rows place trails last → place < length rows
    → own_before stage rows place ≡ chain stage rows o → IsBelow place o → trail.before ≡ o
    → (o ≡ None → (x : Placed) → x.row ≡ r → Tells stage.op [] x trail)
    → ((p : ℕ) (l : Trail) → o ≡ Some p → slice_get trails p ≡ Some l → (own : List Placed) (y x : Placed) → x.row ≡ r → Tells stage.op own y l → Tells stage.op (own ++ y ∷ []) x trail)
    → IsTrail stage rows place r trail
trail_by stage rows place trails last r d trail None h l is below at first next =
    let x : Placed = record { place = place; row = r } in
    let told : Tells stage.op [] x trail = first refl x refl in
    record {
      below = subst (IsBelow place) (sym at) below;
      own = is ∙ ap (chain stage rows) (sym at);
      few = omega (arith, told.count);
      tells = subst (λ (own : List Placed). Tells stage.op own x trail) (sym is) told;
    }
trail_by stage rows place trails last r d trail (Some p) h l is below at first next =
    let x : Placed = record { place = place; row = r } in
    let found = there trails p (omega (arith, below, h.many)) in
    let row = there rows p (omega (arith, below, l)) in
    let y : Placed = record { place = p; row = row.0 } in
    let had : IsTrail stage rows p row.0 found.0 = h.each p found.0 found.1 row.0 row.1 in
    let told : Tells stage.op (own_before stage rows p ++ y ∷ []) x trail = next p found.0 refl found.1 (own_before stage rows p) y x refl had.tells in
    let whole : own_upto stage rows p ≡ own_before stage rows p ++ y ∷ [] =
    upto_is stage rows p row.0 d (omega (arith, below, l)) row.1 (sym (get_or_from_slice_get rows p row.0 d row.1)) in
    record {
      below = subst (IsBelow place) (sym at) below;
      own = is ∙ ap (chain stage rows) (sym at);
      few = omega (arith, told.count, size_more (own_before stage rows p) y, had.tells.count, had.few, below);
      tells = subst (λ (own : List Placed). Tells stage.op own x trail) (sym (is ∙ whole)) told;
    }

-- the last row of a partition and a key, with one row more
own_by : (stage : Stage) (rows : List Row) (place q : ℕ) (k : Key) (r d : Row) (o : Option ℕ) (t : Bool) → place < length rows → r ≡ get_or rows place d
    → ((route_of r stage.by stage.parts == q) && is_key (key_of (keyed_by stage.op) r) k) ≡ t → own_among stage rows place q k ≡ chain stage rows o
    → own_among stage rows (place + 1) q k ≡ chain stage rows (cond t (Some place) o)
own_by stage rows place q k r d o true l is goes had =
    let parts = and_parts (route_of r stage.by stage.parts == q) (is_key (key_of (keyed_by stage.op) r) k) goes in
    let there : route_of r stage.by stage.parts ≡ q = eqb-true (route_of r stage.by stage.parts) q parts.0 in
    let same : key_of (keyed_by stage.op) r ≡ k = same_key (key_of (keyed_by stage.op) r) k parts.1 in
    let at : slice_get rows place ≡ Some r = row_is rows place d l ∙ ap Some (sym is) in
    ap (λ (p : ℕ). own_among stage rows (place + 1) p k) (sym there)
    ∙ (ap (own_among stage rows (place + 1) (route_of r stage.by stage.parts)) (sym same) ∙ sym (own-some stage rows (place + 1) (slice_get rows place) r at))
own_by stage rows place q k r d o false l is goes had =
    let g = get_or rows place d in
    keyed-more (keyed_by stage.op) k stage q rows place d false l (sym goes ∙ ap (λ (z : Row). (route_of z stage.by stage.parts == q) && is_key (key_of (keyed_by stage.op) z) k) is)
    ∙ (append-nil (own_among stage rows place q k) ∙ had)

pub trailed_next : (stage : Stage) (rows : List Row) (place : ℕ) (trails new_trails : List Trail) (last new_last : ℕ → Key → Option ℕ) (r d : Row) (trail : Trail) (before : Option ℕ) → AreTrailed stage rows place trails last
    → place < length rows → r ≡ get_or rows place d → new_trails ≡ trails ++ trail ∷ [] → before ≡ last (route_of r stage.by stage.parts) (key_of (keyed_by stage.op) r)
    → ((q : ℕ) (k : Key) → new_last q k ≡ cond ((route_of r stage.by stage.parts == q) && is_key (key_of (keyed_by stage.op) r) k) (Some place) (last q k)) → trail.before ≡ before
    → (before ≡ None → (x : Placed) → x.row ≡ r → Tells stage.op [] x trail)
    → ((p : ℕ) (l : Trail) → before ≡ Some p → slice_get trails p ≡ Some l → (own : List Placed) (y x : Placed) → x.row ≡ r → Tells stage.op own y l → Tells stage.op (own ++ y ∷ []) x trail)
    → AreTrailed stage rows (place + 1) new_trails new_last
trailed_next stage rows place trails new_trails last new_last r d trail before h l is more was puts at first next =
    let q = route_of r stage.by stage.parts in
    let k = key_of (keyed_by stage.op) r in
    let row_at : slice_get rows place ≡ Some r = row_is rows place d l ∙ ap Some (sym is) in
    let own : own_before stage rows place ≡ chain stage rows before = own-some stage rows place (slice_get rows place) r row_at ∙ (h.own q k ∙ ap (chain stage rows) (sym was)) in
    let below : IsBelow place before = subst (IsBelow place) (sym was) (h.below q k) in
    let new : IsTrail stage rows place r trail = trail_by stage rows place trails last r d trail before h l own below at first next in
    let new_each : (z : Row) → slice_get rows place ≡ Some z → IsTrail stage rows place z trail = λ z e. subst (λ (w : Row). IsTrail stage rows place w trail) (of_some r z (sym row_at ∙ e)) new in
    record {
      many = ap length more ∙ omega (arith, length-append trails (trail ∷ []), h.many);
      each = subst (λ (ls : List Trail). (p : ℕ) (z : Trail) → slice_get ls p ≡ Some z → (w : Row) → slice_get rows p ≡ Some w → IsTrail stage rows p w z) (sym more)
          (pushed (λ (p : ℕ) (z : Trail). (w : Row) → slice_get rows p ≡ Some w → IsTrail stage rows p w z) trails trail h.each
          (subst (λ (p : ℕ). (w : Row) → slice_get rows p ≡ Some w → IsTrail stage rows p w trail) (sym h.many) new_each));
      few = subst (λ (ls : List Trail). (p : ℕ) (z : Trail) → slice_get ls p ≡ Some z → z.count ≤ p) (sym more)
          (pushed (λ (p : ℕ) (z : Trail). z.count ≤ p) trails trail h.few (subst (λ (p : ℕ). trail.count ≤ p) (sym h.many) new.few));
      back = subst GoBack (sym more) (pushed (λ (p : ℕ) (z : Trail). IsBelow p z.before) trails trail h.back (subst (λ (p : ℕ). IsBelow p trail.before) (sym h.many) new.below));
      below = λ p s. subst (IsBelow (place + 1)) (sym (puts p s)) (below_by place ((q == p) && is_key k s) (last p s) (h.below p s));
      own = λ p s. own_by stage rows place p s r d (last p s) ((q == p) && is_key k s) l is refl (h.own p s) ∙ ap (chain stage rows) (sym (puts p s));
    }
