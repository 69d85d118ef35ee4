use Rattle.std.proofs.Common.{◌≡◌, ◌==◌, ◌∙◌, true, false, get_or, pos, refl, sym, take}
use Rattle.std.proofs.lemmas.Bool.{eq-eqb}
use Rattle.std.proofs.lemmas.Option.{slice_get-get_or}
use Rattle.tuple_edge.specs.Row.{route_of}
use Rattle.tuple_edge.specs.declared.row.Row.{Row}
use Rattle.merge_order.proofs.Choices.{nat_not}
use Rattle.evaluation.specs.StageRows.{alike, rows_to}
use Rattle.evaluation.proofs.Taking.{alike_open}
use Rattle.origin_finder.specs.Passing.{Passing}
use Rattle.origin_finder.proofs.Passed.{passed_here, passed_other, then3}
use Rattle.origin_finder.proofs.passing.take_if.Goals as goal

abbrev none : Row
none = record { time = pos 0; account = pos 0; symbol = pos 0; qty = pos 0; value = pos 0 }

pub returns-then-route-part : goal.returns-then-route-part
returns-then-route-part c =
    let stage = c.args.stage.now in
    let rows = c.args.rows.now in
    let r = get_or rows c.args.place none in
    let p : Passing = record { state = c.args.state.now; out = c.args.out.now.items; said = c.args.said.now.items } in
    let away : (route_of r stage.by stage.parts == c.args.part) ≡ false = nat_not (route_of r stage.by stage.parts) c.args.part (λ e. c.if-route-part.true (c.route.ensures.value ∙ e)) in
    record { passed = λ had. passed_other stage c.args.part rows c.args.place none p c.requires.there away had }

pub returns : goal.returns
returns c = record {
  passed = then3 c.take.result (λ answers stands told had.
      let stage = c.args.stage.now in
      let rows = c.args.rows.now in
      let q = c.args.part in
      let k = c.args.place in
      let r = get_or rows k none in
      let X = rows_to stage q (take k rows) in
      let p : Passing = record { state = c.args.state.now; out = c.args.out.now.items; said = c.args.said.now.items } in
      let new : Passing = record { state = c.take.new.state; out = c.take.new.out.items; said = c.take.new.said.items } in
      let goes : (route_of r stage.by stage.parts == q) ≡ true = eq-eqb (route_of r stage.by stage.parts) q (sym c.route.ensures.value ∙ c.if-route-part.false) in
      passed_here stage q rows k r none p new c.requires.there refl goes had c.take.ensures.spec (stands (alike X) (alike_open X) had.stands) (answers had)
      (told had rows (refl, slice_get-get_or rows k none c.requires.there, sym c.route.ensures.value ∙ c.if-route-part.false)))
      c.take.ensures.answers c.take.ensures.stands c.take.ensures.said;
}
