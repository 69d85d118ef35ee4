use Rattle.std.proofs.Common.{◌≡◌, ◌==◌, ◌∷◌, ◌++◌, ◌∙◌, [], true, false, Result, Ok, Err, ap, get_or, pos, subst, sym, take}
use Rattle.std.specs.Prelude.{OnOk}
use Rattle.std.proofs.lemmas.Bool.{eq-eqb}
use Rattle.std.proofs.lemmas.List.{take_all, take_more}
use Rattle.tuple_edge.specs.Row.{route_of}
use Rattle.tuple_edge.specs.declared.item.Item.TheVariants as item
use Rattle.tuple_edge.specs.declared.row.Row.{Row}
use Rattle.merge_order.proofs.Choices.{nat_not}
use Rattle.evaluation.proofs.Taking.{Answered, Steps, answered_end, answered_here, answered_none, answered_other}
use Rattle.evaluation.proofs.states.finish.Goals as goal
use Rattle.evaluation.proofs.states.finish.Goals.{then-route-part+in_ok-step, else-route-part}

abbrev none : Row
none = record { time = pos 0; account = pos 0; symbol = pos 0; qty = pos 0; value = pos 0 }

pub loop-row-init : goal.loop-row-init
loop-row-init c before took = answered_none c.args.stage.now c.args.part c.args.state.now before c.args.out.now.items took

pub loop-row-preserved : goal.loop-row-preserved
loop-row-preserved c before took =
    let stage = c.args.stage.now in
    let q = c.args.part in
    let k = c.loop-row.row-index in
    let rows = c.args.rows.now in
    let r = get_or rows k none in
    let had = c.args.out.now.items in
    let done = c.loop-row.invariant before took in
    let finish : Answered stage q c.if-route-part.state before (take k rows ++ r ∷ []) had c.if-route-part.out.items =
    elim c.if-route-part.branch [
      | then-route-part+in_ok-step w ↦
          let steps : Steps (item.Row 0 r) c.loop-row.state w.step.new.self c.loop-row.out.items w.step.new.out.items =
          record { answers = w.in_ok-step.ensures.answers; stands = w.in_ok-step.ensures.stands; spec = w.in_ok-step.ensures.spec } in
          let goes : (route_of r stage.by stage.parts == q) ≡ true = eq-eqb (route_of r stage.by stage.parts) q (sym c.route.ensures.value ∙ w.if-route-part.true) in
          subst (λ s. Answered stage q s before (take k rows ++ r ∷ []) had c.if-route-part.out.items) (sym w.state-is)
          (subst (λ o. Answered stage q w.step.new.self before (take k rows ++ r ∷ []) had o) (sym (ap (λ o. o.items) w.out-is))
          (answered_here stage q c.loop-row.state w.step.new.self before (take k rows) had c.loop-row.out.items w.step.new.out.items r goes steps done))
      | else-route-part w ↦
          let goes : (route_of r stage.by stage.parts == q) ≡ false = nat_not (route_of r stage.by stage.parts) q (λ e. w.if-route-part.false (c.route.ensures.value ∙ e)) in
          subst (λ s. Answered stage q s before (take k rows ++ r ∷ []) had c.if-route-part.out.items) (sym w.state-is)
          (subst (λ o. Answered stage q c.loop-row.state before (take k rows ++ r ∷ []) had o) (sym (ap (λ o. o.items) w.out-is))
          (answered_other stage q c.loop-row.state before (take k rows) had c.loop-row.out.items r goes done))
    ] in
    subst (λ rs. Answered stage q c.if-route-part.state before rs had c.if-route-part.out.items) (sym (take_more rows k none c.loop-row-test.true)) finish

pub returns : goal.returns
returns c = both c.step-2.result (λ answers stands before took.
    let stage = c.args.stage.now in
    let rows = c.args.rows.now in
    let steps : Steps (item.End 0) c.loop-row.state c.step-2.new.self c.loop-row.out.items c.step-2.new.out.items = record { answers = answers; stands = stands; spec = c.step-2.ensures.spec } in
    let done = subst (λ rs. Answered stage c.args.part c.loop-row.state before rs c.args.out.now.items c.loop-row.out.items) (take_all c.loop-row.row-index rows c.loop-row-test.false) (c.loop-row.invariant before took) in
    answered_end stage c.args.part c.loop-row.state c.step-2.new.self before rows c.args.out.now.items c.loop-row.out.items c.step-2.new.out.items steps done)
    c.step-2.ensures.answers c.step-2.ensures.stands
  where
    both : {A E : Type 0} {P Q R : Type 0} → (r : Result A E) → (P → Q → R) → OnOk r P → OnOk r Q → OnOk r R
    both (Ok x) f p q = f p q
    both (Err e) f p q = tt
