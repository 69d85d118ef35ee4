use Rattle.std.proofs.Common.{◌≡◌, ◌∙◌, Bool, Some, ap, cond, slice_get, sym, take}
use Rattle.tuple_edge.specs.Row.{route_of}
use Rattle.row_cause.specs.declared.placed.Placed.{Placed}
use Rattle.row_cause.specs.Causes.{spoke}
use Rattle.row_origin.specs.Stages.{placed_from, placed_to}
use Rattle.row_origin.specs.Marks.{marked}
use Rattle.origin_finder.proofs.Caused.{not_caused, row_caused, spoken_cause}
use Rattle.origin_finder.proofs.Walking.{reached_spoke}
use Rattle.origin_finder.proofs.telling.mark_row.Goals as goal

pub returns-in-None-clause-roles : goal.returns-in-None-clause-roles
returns-in-None-clause-roles c cause caused =
    absurd (not_caused c.args.stage.now c.args.rows.now c.args.place c.args.nth cause (sym c.in-None.ensures) caused)

pub returns-in_ok-mark_before-in-Some-clause-reached : goal.returns-in_ok-mark_before-in-Some-clause-reached
returns-in_ok-mark_before-in-Some-clause-reached c =
    let r : Placed = record { place = c.args.place; row = c.in-Some.row } in
    reached_spoke c.args.stage.now c.args.rows.now c.mark_before.new.reached c.mark_before.new.roles c.mark_spoke.new.self (spoke (Some r)) c.counts_itself.result c.mark_spoke.ensures.rests c.mark_spoke.ensures.counts c.in_ok-mark_before-in-Some.ensures.reached

pub returns-in_ok-mark_before-in-Some-clause-roles : goal.returns-in_ok-mark_before-in-Some-clause-roles
returns-in_ok-mark_before-in-Some-clause-roles c cause caused =
    let stage = c.args.stage.now in
    let rows = c.args.rows.now in
    let row = c.in-Some.row in
    let r : Placed = record { place = c.args.place; row = row } in
    let at : slice_get rows c.args.place ≡ Some row = sym c.in-Some.ensures in
    let found = row_caused stage rows c.args.place c.args.nth row cause at caused in
    spoken_cause stage.op (placed_to stage (route_of row stage.by stage.parts) (placed_from 0 (take c.args.place rows))) r c.args.nth cause c.args.roles.now c.mark_before.new.roles c.mark_spoke.new.self found
    (c.in_ok-mark_before-in-Some.ensures.roles cause found) c.mark_spoke.ensures.rests
    (c.mark_spoke.ensures.counts ∙ ap (λ (t : Bool). cond t (marked (spoke (Some r)) c.mark_before.new.roles.counts) c.mark_before.new.roles.counts) c.counts_itself.ensures)
