use Rattle.std.proofs.Common.{◌≡◌, ◌+◌, ◌∷◌, ◌++◌, ◌∙◌, [], List, Some, ap, append_assoc, arith, drop, get_or, length-append, pos, refl, subst, sym, take}
use Rattle.std.proofs.lemmas.List.{drop_all, drop_more, get_or_append_left, take-append-le, take_more}
use Rattle.std.proofs.lemmas.Option.{slice_get-get_or}
use Rattle.tuple_edge.specs.Row.{route_of}
use Rattle.tuple_edge.specs.declared.row.Row.{Row}
use Rattle.evaluation.specs.StageRows.{PartsTook, early_replies, row_replies}
use Rattle.row_cause.specs.Causes.{Cause, row_causes}
use Rattle.row_origin.specs.Stages.{early_causes, placed_from, placed_to}
use Rattle.origin_finder.specs.Said.{IsLeft}
use Rattle.origin_finder.proofs.Saying.{early_next, goes_on}
use Rattle.origin_finder.proofs.passing.pass_early.Goals as goal

abbrev none : Row
none = record { time = pos 0; account = pos 0; symbol = pos 0; qty = pos 0; value = pos 0 }

pub loop-place-preserved : goal.loop-place-preserved
loop-place-preserved c =
    let inv = c.loop-place.invariant in
    let stage = c.args.stage.now in
    let rows = c.args.rows.now in
    let k = c.loop-place.place in
    let r = get_or rows k none in
    let out = c.loop-place.out.items in
    let new = c.take_early.new.out.items in
    let before = take k rows in
    let later = drop (k + 1) rows in
    let more : take (k + 1) rows ≡ before ++ r ∷ [] = take_more rows k none c.loop-place-test.true in
    let gave : new ≡ out ++ row_replies stage before r = c.in_ok-take_early.ensures.answers inv.took in
    let told = c.in_ok-take_early.ensures.said inv.took in
    record {
      parts = c.in_ok-take_early.ensures.parts ∙ inv.parts;
      took = subst (PartsTook stage 0 c.take_early.new.states) (sym more) (c.in_ok-take_early.ensures.took inv.took);
      answers = inv.answers
          ∙ (ap (λ (xs : List Row). out ++ early_replies stage before xs) (drop_more rows k none c.loop-place-test.true)
          ∙ (sym (append_assoc out (row_replies stage before r) (early_replies stage (before ++ r ∷ []) later))
          ∙ (ap (λ (o : List Row). o ++ early_replies stage (before ++ r ∷ []) later) (sym gave) ∙ ap (λ (xs : List Row). new ++ early_replies stage xs later) (sym more))));
      said = λ late. goes_on stage (rows ++ late) (early_causes stage [] (placed_from 0 rows)) (early_causes stage (placed_from 0 before) (placed_from k (drop k rows)))
          (row_causes stage.op (placed_to stage (route_of r stage.by stage.parts) (placed_from 0 before)) (record { place = k; row = r })) (early_causes stage (placed_from 0 (take (k + 1) rows)) (placed_from (k + 1) later))
          c.args.said.now.items c.loop-place.said.items c.take_early.new.said.items (early_next stage rows k r none c.loop-place-test.true refl)
          (told (rows ++ late) (sym (take-append-le k rows late (omega arith))) (slice_get-get_or (rows ++ late) k none (omega (arith, length-append rows late)) ∙ ap Some (get_or_append_left rows late none k c.loop-place-test.true))) (inv.said late);
    }

pub returns-clause-said : goal.returns-clause-said
returns-clause-said c late left all h =
    let stage = c.args.stage.now in
    let rows = c.args.rows.now in
    let k = c.loop-place.place in
    let none_left : early_causes stage (placed_from 0 (take k rows)) (placed_from k (drop k rows)) ≡ [] =
    ap (λ (rs : List Row). early_causes stage (placed_from 0 (take k rows)) (placed_from k rs)) (drop_all k rows c.loop-place-test.false) in
    subst (λ (cs : List Cause). IsLeft stage (rows ++ late) c.loop-place.said.items (cs ++ left) all) none_left (c.loop-place.invariant.said late left all h)
