use Rattle.std.proofs.Common.{rules, ◌≡◌, ◌∙◌, ◌++◌, ◌∷◌, [], ℕ, Some, ap, arith, cond, get_or, length, pos, refl, slice_get, subst, sym}
use Rattle.std.specs.Prelude.{◌&&◌, ◌==◌, List}
use Rattle.tuple_edge.specs.Row.{route_of}
use Rattle.tuple_edge.specs.declared.row.Key.{Key}
use Rattle.tuple_edge.specs.declared.row.Row.{Row}
use Rattle.op_spec.specs.Keys.{is_key, key_of}
use Rattle.cause_finder.specs.Trails.{IsBelow, keyed_by, own_among, place_at}
use Rattle.cause_finder.specs.declared.trails.Trail.{Trail}
use Rattle.cause_finder.proofs.TrailRows.{trailed_next}
use Rattle.cause_finder.proofs.trails.key_trails.Goals as goal

abbrev none : Row
none = record { time = pos 0; account = pos 0; symbol = pos 0; qty = pos 0; value = pos 0 }

pub loop-place-preserved : goal.loop-place-preserved
loop-place-preserved c =
    let inv = c.loop-place.invariant in
    let stage = c.args.stage.now in
    let rows = c.args.rows.now in
    let k = c.loop-place.place in
    let r = get_or rows k none in
    let last = place_at c.loop-place.last.entries in
    let trails = c.loop-place.trails.items in
    let trail : Trail = c.trail_behind-trail.result in
    let pushed : c.push.new.self.items ≡ trails ++ trail ∷ [] = search rules in
    let part : c.spot_of.result.part ≡ route_of r stage.by stage.parts = c.spot_of.ensures.part in
    let key : c.spot_of.result.key ≡ key_of (keyed_by stage.op) r = c.spot_of.ensures.key in
    let was : c.in_ok-before.before ≡ last (route_of r stage.by stage.parts) (key_of (keyed_by stage.op) r) =
    c.in_ok-before.ensures.before ∙ (ap (λ (q : ℕ). last q c.spot_of.result.key) part ∙ ap (last (route_of r stage.by stage.parts)) key) in
    trailed_next stage rows k trails c.push.new.self.items last (place_at c.put_last.new.last.entries) r none trail c.in_ok-before.before inv c.loop-place-test.true refl pushed was
    (λ q s. c.in_ok-before.ensures.puts q s
    ∙ (ap (λ (p : ℕ). cond ((p == q) && is_key c.spot_of.result.key s) (Some k) (last q s)) part ∙ ap (λ (z : Key). cond ((route_of r stage.by stage.parts == q) && is_key z s) (Some k) (last q s)) key))
    c.trail_behind-trail.ensures.before c.trail_behind-trail.ensures.first
    (λ p l is at. c.trail_behind-trail.ensures.next p l is (ap (λ (ls : List Trail). slice_get ls p) c.deref.ensures.value ∙ at))

pub returns : goal.returns
returns c =
    let inv = c.loop-place.invariant in
    let stage = c.args.stage.now in
    let rows = c.args.rows.now in
    let last = place_at c.loop-place.last.entries in
    let all : c.loop-place.place ≡ length rows = omega (arith, c.loop-place.auto.place-end, c.loop-place-test.false) in
    record {
      whole = inv.many ∙ all;
      each = λ place r trail row at. inv.each place trail at r row;
      below = λ q k. subst (λ (n : ℕ). IsBelow n (last q k)) all (inv.below q k);
      last = λ q k. ap (λ (n : ℕ). own_among stage rows n q k) (sym all) ∙ inv.own q k;
    }
