use Rattle.std.proofs.Common.{◌≡◌, ◌<◌, ◌+◌, ◌-◌, ◌++◌, ◌∙◌, ℕ, suc, List, add-one, ap, append_assoc, arith, drop, get_or, length, set, subst, sym, take}
use Rattle.std.proofs.lemmas.List.{drop_more, length-set}
use Rattle.tuple_edge.specs.declared.row.Row.{Row}
use Rattle.stream_ops.specs.State.{StateView}
use Rattle.evaluation.specs.StageRows.{HasTaken, PartsTook, late_replies, part_replies, rows_to}
use Rattle.evaluation.proofs.Taking.{drop-set, late_next}
use Rattle.row_origin.specs.Stages.{late_causes, part_causes, placed_from, placed_to}
use Rattle.origin_finder.specs.Passing.{causes_from}
use Rattle.origin_finder.specs.Said.{HasNoted, IsLeft}
use Rattle.origin_finder.proofs.Saying.{goes_on}
use Rattle.origin_finder.proofs.passing.pass_late.Goals as goal

pub loop-state-preserved : goal.loop-state-preserved
loop-state-preserved c =
    let inv = c.loop-state.invariant in
    let stage = c.args.stage.now in
    let rows = c.args.rows.now in
    let early = take c.args.early rows in
    let late = drop c.args.early rows in
    let k = c.loop-state.state-index in
    let states = c.loop-state.states in
    let state = get_or states k c.state-item.result in
    let new = c.finish.new.state in
    let out = c.loop-state.out.items in
    let has = c.finish.new.out.items in
    let here : k < length states = omega (arith, c.loop-state-test.true, inv.parts, c.requires.parts) in
    let split : HasTaken stage.op state (rows_to stage k early) × PartsTook stage (k + 1) (drop (k + 1) states) early =
    subst (λ (ss : List StateView). PartsTook stage k ss early) (drop_more states k c.state-item.result here) inv.took in
    let mine_took : HasTaken stage.op state (rows_to stage c.loop-state.part early) = subst (λ (q : ℕ). HasTaken stage.op state (rows_to stage q early)) (sym inv.part) split.0 in
    let kept : drop (k + 1) states ≡ drop (k + 1) (set states k new) =
    ap (λ (n : ℕ). drop n states) (add-one k) ∙ (sym (drop-set k states new) ∙ ap (λ (n : ℕ). drop n (set states k new)) (sym (add-one k))) in
    let fewer : stage.parts - k ≡ suc (stage.parts - (k + 1)) = omega (arith, here, inv.parts) in
    let mine = part_replies stage early late k in
    let rest = late_replies stage early late (k + 1) (stage.parts - (k + 1)) in
    let E = placed_from 0 early in
    let L = placed_from c.args.early late in
    let gave : has ≡ out ++ mine = c.in_ok-finish.ensures.answers mine_took ∙ ap (λ (q : ℕ). out ++ part_replies stage early late q) inv.part in
    record {
      part = ap (λ (n : ℕ). n + 1) inv.part;
      parts = length-set states k new ∙ inv.parts;
      took = subst (λ (ss : List StateView). PartsTook stage (k + 1) ss early) kept split.1;
      answers = inv.answers ∙ (ap (λ (rs : List Row). out ++ rs) (late_next stage early late k (stage.parts - k) (stage.parts - (k + 1)) fewer)
          ∙ (sym (append_assoc out mine rest) ∙ ap (λ (rs : List Row). rs ++ rest) (sym gave)));
      said = goes_on stage rows (late_causes stage E L 0 stage.parts) (late_causes stage E L k (stage.parts - k)) (part_causes stage.op (placed_to stage k E) (placed_to stage k L))
          (late_causes stage E L (k + 1) (stage.parts - (k + 1))) c.args.said.now.items c.loop-state.said.items c.finish.new.said.items (ap (late_causes stage E L k) fewer)
          (subst (λ (q : ℕ). HasNoted stage rows (causes_from stage q rows c.args.early) c.loop-state.said.items c.finish.new.said.items) inv.part (c.in_ok-finish.ensures.said mine_took)) inv.said;
    }

pub returns-clause-said : goal.returns-clause-said
returns-clause-said c left all h =
    let stage = c.args.stage.now in
    let rows = c.args.rows.now in
    let inv = c.loop-state.invariant in
    let k = c.loop-state.state-index in
    let E = placed_from 0 (take c.args.early rows) in
    let L = placed_from c.args.early (drop c.args.early rows) in
    let none_left : stage.parts - k ≡ 0 = omega (arith, inv.parts, c.loop-state-test.false) in
    subst (λ (n : ℕ). IsLeft stage rows c.loop-state.said.items (late_causes stage E L k n ++ left) all) none_left (inv.said left all h)
