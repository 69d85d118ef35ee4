use Rattle.std.proofs.Common.{◌∙◌, arith}
use Rattle.std.proofs.lemmas.List.{get_or_default}
use Rattle.ingress_egress.proofs.EachSource.{one_sends}
use Rattle.ingress_egress.proofs.EgressSteps.{when_ok}
use Rattle.ingress_egress.proofs.making.make_row_alone.Goals as goal

pub returns-clause-made : goal.returns-clause-made
returns-clause-made c = when_ok c.emit_row.result _ _
    (one_sends c.args.first.now c.args.stamp c.args.input c.args.producers.now.items c.index_mut.result.now c.emit_row.new.producer (omega arith)
    (c.index_mut.ensures.value ∙ get_or_default c.args.producers.now.items c.args.input.source c.index_mut.result.now _ (omega arith)))
    c.emit_row.ensures.made
