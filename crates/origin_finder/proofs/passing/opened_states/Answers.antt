use Rattle.std.proofs.Common.{rules, ◌≡◌, ◌∷◌, ◌++◌, ◌∙◌, [], List, ap, arith, length, length-append, subst, sym}
use Rattle.stream_ops.specs.State.{StateView}
use Rattle.evaluation.specs.StageRows.{HasTaken, PartsTook}
use Rattle.evaluation.proofs.Taking.{one_more}
use Rattle.origin_finder.proofs.passing.opened_states.Goals as goal

pub loop-part-preserved : goal.loop-part-preserved
loop-part-preserved c =
    let inv = c.loop-part.invariant in
    let pushed : c.push.new.self.items ≡ c.loop-part.states.items ++ c.new.result ∷ [] = search rules in
    let new : HasTaken c.args.stage.now.op c.new.result [] = record { spec = ap (λ (s : StateView). s.spec) c.new.ensures.unseen; stands = c.new.ensures.stands } in
    record {
      parts = ap length pushed ∙ omega (arith, length-append c.loop-part.states.items (c.new.result ∷ []), inv.parts);
      took = subst (λ (ss : List StateView). PartsTook c.args.stage.now 0 ss []) (sym pushed) (one_more c.args.stage.now 0 c.loop-part.states.items c.new.result new inv.took);
    }
