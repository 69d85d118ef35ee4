use Rattle.std.proofs.Common.{◌++◌, ◌∷◌, ◌∙◌, [], List, pos, cond, get_or, ap, sym}
use Rattle.tuple_edge.specs.declared.row.Row.{Row}
use Rattle.row_cause.specs.declared.placed.Placed.{Placed}
use Rattle.row_origin.proofs.Placing.{keyed-more}
use Rattle.cause_finder.proofs.keyed.keyed.Goals as goal

abbrev none : Row
none = record { time = pos 0; account = pos 0; symbol = pos 0; qty = pos 0; value = pos 0 }

pub loop-place-preserved : goal.loop-place-preserved
loop-place-preserved c =
    let i = c.loop-place.place in
    let rows = c.args.rows.now in
    let wanted = c.is_wanted-wanted.result in
    let x : Placed = record { place = i; row = get_or rows i none } in
    c.in_ok-push_if.ensures
    ∙ (ap (λ (xs : List Placed). xs ++ cond wanted (x ∷ []) []) c.loop-place.invariant
    ∙ sym (keyed-more c.args.by c.args.key.now c.args.stage.now c.args.part rows i none wanted c.loop-place-test.true c.is_wanted-wanted.ensures))
