use Rattle.std.proofs.Common.{◌+◌, ◌++◌, ◌∙◌, List, ap, false, pos, sym}
use Rattle.std.proofs.lemmas.List.{append-nil}
use Rattle.reach_finder.specs.Traced.{marks_in, rows_in}
use Rattle.reach_finder.specs.declared.shades.Traced.{Traced}
use Rattle.reach_finder.proofs.Tracing.{none_left}
use Rattle.reach_text.specs.Told.{told_from}
use Rattle.reach_text.proofs.Telling.{told_on}
use Rattle.reach_text.proofs.told.told_rows.Goals as goal

abbrev none : Traced
none = record { row = record { time = pos 0; account = pos 0; symbol = pos 0; qty = pos 0; value = pos 0 }; reached = false }

pub loop-place-preserved : goal.loop-place-preserved
loop-place-preserved c =
    let rows = c.args.rows.now in
    told_on rows c.loop-place.place (c.loop-place.place + 1) none c.loop-place.told.items c.push_if.new.told.items (told_from 1 (rows_in rows) (marks_in rows)) c.loop-place-test.true c.in_ok-push_if.ensures c.loop-place.invariant

pub returns : goal.returns
returns c =
    let rows = c.args.rows.now in
    let k = c.loop-place.place in
    let told = c.loop-place.told.items in
    sym (append-nil told) ∙ (ap (λ (xs : List Traced). told ++ told_from (k + 1) (rows_in xs) (marks_in xs)) (sym (none_left rows k c.loop-place-test.false)) ∙ c.loop-place.invariant)
