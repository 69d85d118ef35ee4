use Rattle.std.proofs.Common.{rules, ◌≡◌, ◌∷◌, ◌++◌, ◌∙◌, [], List, ap, arith, length, length-append, subst, sym}
use Rattle.reach_finder.specs.Traced.{PartsSaw}
use Rattle.reach_finder.specs.declared.tracer.Tracer.{Tracer}
use Rattle.reach_finder.proofs.Tracing.{one_opened}
use Rattle.reach_finder.proofs.stages.opened.Goals as goal

pub loop-part-preserved : goal.loop-part-preserved
loop-part-preserved c =
    let inv = c.loop-part.invariant in
    let pushed : c.push.new.self.items ≡ c.loop-part.tracers.items ++ c.new.result ∷ [] = search rules in
    record {
      parts = ap length pushed ∙ omega (arith, length-append c.loop-part.tracers.items (c.new.result ∷ []), inv.parts);
      saw = subst (λ (ts : List Tracer). PartsSaw c.args.stage.now 0 ts []) (sym pushed) (one_opened c.args.stage.now 0 c.loop-part.tracers.items c.new.result c.new.ensures inv.saw);
    }
