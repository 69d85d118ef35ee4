use Rattle.std.proofs.Common.{◌≡◌, ◌==◌, ◌∷◌, ◌∙◌, ◌+◌, true, false, List, Result, Ok, Err, ap, drop, get_or, pos, refl, subst, sym}
use Rattle.std.specs.Prelude.{OnOk}
use Rattle.std.proofs.lemmas.Bool.{eq-eqb}
use Rattle.std.proofs.lemmas.List.{drop_more}
use Rattle.tuple_edge.specs.Row.{route_of}
use Rattle.merge_order.proofs.Choices.{nat_not}
use Rattle.reach_finder.specs.Traced.{traced_part}
use Rattle.reach_finder.specs.declared.shades.Traced.{Traced}
use Rattle.reach_finder.proofs.Tracing.{Stands, none_left, stands_here, stands_other}
use Rattle.reach_finder.proofs.stages.finish.Goals as goal
use Rattle.reach_finder.proofs.stages.finish.Goals.{then-route-part+in_ok-take, else-route-part}

abbrev none : Traced
none = record { row = record { time = pos 0; account = pos 0; symbol = pos 0; qty = pos 0; value = pos 0 }; reached = false }

then : {A E : Type 0} {P Q : Type 0} → (r : Result A E) → (P → Q) → OnOk r P → OnOk r Q
then (Ok x) f p = f p
then (Err e) f p = tt

pub loop-x-init : goal.loop-x-init
loop-x-init c before seen = record { before = before; seen = seen; answers = refl }

pub loop-x-preserved : goal.loop-x-preserved
loop-x-preserved c before seen =
    let stage = c.args.stage.now in
    let q = c.args.part in
    let k = c.loop-x.x-index in
    let rows = c.args.rows.now in
    let x = get_or rows k none in
    let rest = drop (k + 1) rows in
    let had = c.args.out.now.items in
    let whole = traced_part stage q before rows in
    let old = c.loop-x.tracer in
    let has = c.loop-x.out.items in
    let done : Stands stage q old (x ∷ rest) had has whole = subst (λ (xs : List Traced). Stands stage q old xs had has whole) (drop_more rows k none c.loop-x-test.true) (c.loop-x.invariant before seen) in
    elim c.if-route-part.branch [
      | then-route-part+in_ok-take w ↦
          let goes : (route_of x.row stage.by stage.parts == q) ≡ true = eq-eqb (route_of x.row stage.by stage.parts) q (sym c.route.ensures.value ∙ w.if-route-part.true) in
          subst (λ t. Stands stage q t rest had c.if-route-part.out.items whole) (sym w.tracer-is)
          (subst (λ o. Stands stage q w.take.new.self rest had o whole) (sym (ap (λ o. o.items) w.out-is))
          (stands_here stage q old w.take.new.self x rest had has w.take.new.out.items whole goes w.in_ok-take.ensures.seen w.in_ok-take.ensures.answers done))
      | else-route-part w ↦
          let goes : (route_of x.row stage.by stage.parts == q) ≡ false = nat_not (route_of x.row stage.by stage.parts) q (λ e. w.if-route-part.false (c.route.ensures.value ∙ e)) in
          subst (λ t. Stands stage q t rest had c.if-route-part.out.items whole) (sym w.tracer-is)
          (subst (λ o. Stands stage q old rest had o whole) (sym (ap (λ o. o.items) w.out-is))
          (stands_other stage q old x rest had has whole goes done))
    ]

pub returns : goal.returns
returns c = then c.end.result (λ ends before seen.
    let stage = c.args.stage.now in
    let s = subst (λ (xs : List Traced). Stands stage c.args.part c.loop-x.tracer xs c.args.out.now.items c.loop-x.out.items (traced_part stage c.args.part before c.args.rows.now))
    (none_left c.args.rows.now c.loop-x.x-index c.loop-x-test.false) (c.loop-x.invariant before seen) in
    ends s.before s.seen ∙ s.answers) c.end.ensures
