use Rattle.std.proofs.Common.{◌≡◌, ◌<◌, ◌+◌, ◌-◌, ◌∷◌, ◌++◌, ◌∙◌, [], suc, List, ap, add-one, append_assoc, arith, drop, get_or, length, set, subst, sym}
use Rattle.std.proofs.lemmas.List.{drop_more, length-set}
use Rattle.tuple_edge.specs.declared.item.Item.TheVariants as item
use Rattle.tuple_edge.specs.declared.row.Row.{Row}
use Rattle.stream_ops.specs.Answers.{answers}
use Rattle.evaluation.specs.StageRows.{HasTaken, PartsTook, alike, late_replies, part_replies, rows_to}
use Rattle.evaluation.proofs.Taking.{drop-set, late_next}
use Rattle.evaluation.proofs.states.late_answers.Goals as goal

pub loop-state-preserved : goal.loop-state-preserved
loop-state-preserved c =
    let inv = c.loop-state.invariant in
    let stage = c.args.stage.now in
    let late = c.args.rows.now in
    let k = c.loop-state.state-index in
    let states = c.loop-state.states in
    let state = get_or states k c.state-item.result in
    let new = c.finish.new.state in
    let here : k < length states = omega (arith, c.loop-state-test.true, inv.parts, c.requires.parts) in
    let split : (early : List Row) → PartsTook stage 0 c.args.states.now early → HasTaken stage.op state (rows_to stage k early) × PartsTook stage (k + 1) (drop (k + 1) states) early =
    λ early took. subst (λ ss. PartsTook stage k ss early) (drop_more states k c.state-item.result here) (inv.took early took) in
    let kept : drop (k + 1) states ≡ drop (k + 1) (set states k new) =
    ap (λ n. drop n states) (add-one k) ∙ (sym (drop-set k states new) ∙ ap (λ n. drop n (set states k new)) (sym (add-one k))) in
    let fewer : stage.parts - k ≡ suc (stage.parts - (k + 1)) = omega (arith, here, inv.parts) in
    record {
      part = ap (λ n. n + 1) inv.part;
      parts = length-set states k new ∙ inv.parts;
      took = λ early took. subst (λ ss. PartsTook stage (k + 1) ss early) kept (split early took).1;
      answers = λ early took.
          let mine = part_replies stage early late k in
          let rest = late_replies stage early late (k + 1) (stage.parts - (k + 1)) in
          let gave : c.finish.new.out.items ≡ c.loop-state.out.items ++ mine =
          c.in_ok-finish.ensures (rows_to stage k early) (split early took).0
          ∙ ap (λ q. c.loop-state.out.items ++ answers stage.op (alike (rows_to stage k early)) (alike (rows_to stage q late) ++ item.End 0 ∷ [])) inv.part in
          inv.answers early took ∙ (ap (λ x. c.loop-state.out.items ++ x) (late_next stage early late k (stage.parts - k) (stage.parts - (k + 1)) fewer)
          ∙ (sym (append_assoc c.loop-state.out.items mine rest) ∙ ap (λ x. x ++ rest) (sym gave)));
    }
