use Rattle.std.proofs.Common.{◌≡◌, ◌<◌, ◌+◌, ◌-◌, ◌∙◌, ℕ, ap, arith, cond, false, get_or, length, min, pos, sym, take}
use Rattle.std.specs.Prelude.{count_by}
use Rattle.std.proofs.lemmas.List.{length-map}
use Rattle.reach_finder.specs.Traced.{rows_in}
use Rattle.reach_finder.specs.declared.shades.Traced.{Traced}
use Rattle.reach_text.specs.Told.{is_with}
use Rattle.reach_text.proofs.Telling.{count_on, get_mapped, take_least}
use Rattle.reach_text.proofs.told.rows_before.Goals as goal

abbrev none : Traced
none = record { row = record { time = pos 0; account = pos 0; symbol = pos 0; qty = pos 0; value = pos 0 }; reached = false }

pub loop-place-preserved : goal.loop-place-preserved
loop-place-preserved c =
    let p = is_with c.args.stage.now c.args.by c.args.x.now.row in
    let rows = c.args.rows.now in
    let k = c.loop-place.place in
    let had = c.loop-place.invariant in
    let inside : k < length rows = omega (arith, c.loop-place-test.true, c.least-end.ensures) in
    let many : k < length (rows_in rows) = omega (arith, inside, length-map rows (λ (x : Traced). x.row)) in
    let is : c.is_with-more.result ≡ p (get_or (rows_in rows) k none.row) = c.is_with-more.ensures ∙ ap p (sym (get_mapped rows k none inside)) in
    let now : c.counted-count.result ≡ cond c.is_with-more.result (c.loop-place.count + 1) c.loop-place.count = c.counted-count.ensures.value in
    record {
      count = now ∙ (ap (λ (n : ℕ). cond c.is_with-more.result (n + 1) n) had.count ∙ count_on p (rows_in rows) k none.row c.is_with-more.result many is);
      few = omega (arith, c.counted-count.ensures.few, had.few);
    }

pub returns : goal.returns
returns c =
    let p = is_with c.args.stage.now c.args.by c.args.x.now.row in
    let rows = c.args.rows.now in
    let at : c.loop-place.place ≡ min (c.args.x.now.number - 1) (length (rows_in rows)) =
    omega (arith, c.loop-place-test.false, c.loop-place.auto.place-end, c.least-end.ensures, c.saturating_sub.ensures, length-map rows (λ (x : Traced). x.row)) in
    c.loop-place.invariant.count ∙ ap (count_by p) (ap (λ n. take n (rows_in rows)) at ∙ take_least (rows_in rows) (c.args.x.now.number - 1))
