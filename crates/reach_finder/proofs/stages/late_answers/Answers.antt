use Rattle.std.proofs.Common.{◌≡◌, ◌<◌, ◌+◌, ◌-◌, ◌++◌, ◌∙◌, suc, List, ap, add-one, append_assoc, arith, drop, get_or, length, set, subst, sym}
use Rattle.std.proofs.lemmas.List.{drop_more, length-set}
use Rattle.reach_finder.specs.Traced.{HasSeen, PartsSaw, traced_late, traced_part, traced_to}
use Rattle.reach_finder.specs.declared.shades.Traced.{Traced}
use Rattle.reach_finder.specs.declared.tracer.Tracer.{Tracer}
use Rattle.reach_finder.proofs.Tracing.{dropped_set, late_one_more}
use Rattle.reach_finder.proofs.stages.late_answers.Goals as goal

pub loop-tracer-preserved : goal.loop-tracer-preserved
loop-tracer-preserved c =
    let inv = c.loop-tracer.invariant in
    let stage = c.args.stage.now in
    let late = c.args.rows.now in
    let k = c.loop-tracer.tracer-index in
    let tracers = c.loop-tracer.tracers in
    let tracer = get_or tracers k c.tracer-item.result in
    let new = c.finish.new.tracer in
    let here : k < length tracers = omega (arith, c.loop-tracer-test.true, inv.parts, c.requires.parts) in
    let split : (early : List Traced) → PartsSaw stage 0 c.args.tracers.now early → HasSeen stage.op tracer (traced_to stage k early) × PartsSaw stage (k + 1) (drop (k + 1) tracers) early =
    λ early saw. subst (λ (ts : List Tracer). PartsSaw stage k ts early) (drop_more tracers k c.tracer-item.result here) (inv.saw early saw) in
    let kept : drop (k + 1) tracers ≡ drop (k + 1) (set tracers k new) =
    ap (λ n. drop n tracers) (add-one k) ∙ (sym (dropped_set k tracers new) ∙ ap (λ n. drop n (set tracers k new)) (sym (add-one k))) in
    let fewer : stage.parts - k ≡ suc (stage.parts - (k + 1)) = omega (arith, here, inv.parts) in
    record {
      part = ap (λ n. n + 1) inv.part;
      parts = length-set tracers k new ∙ inv.parts;
      saw = λ early saw. subst (λ (ts : List Tracer). PartsSaw stage (k + 1) ts early) kept (split early saw).1;
      answers = λ early saw.
          let mine = traced_part stage k (traced_to stage k early) late in
          let rest = traced_late stage early late (k + 1) (stage.parts - (k + 1)) in
          let gave : c.finish.new.out.items ≡ c.loop-tracer.out.items ++ mine =
          c.in_ok-finish.ensures (traced_to stage k early) (split early saw).0
          ∙ ap (λ q. c.loop-tracer.out.items ++ traced_part stage q (traced_to stage k early) late) inv.part in
          inv.answers early saw ∙ (ap (λ x. c.loop-tracer.out.items ++ x) (late_one_more stage early late k (stage.parts - k) (stage.parts - (k + 1)) fewer)
          ∙ (sym (append_assoc c.loop-tracer.out.items mine rest) ∙ ap (λ x. x ++ rest) (sym gave)));
    }
