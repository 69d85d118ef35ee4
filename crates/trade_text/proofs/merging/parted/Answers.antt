use Rattle.std.proofs.Common.{rules}
use Rattle.trade_text.proofs.BothFiles.{parted_push}
use Rattle.trade_text.proofs.merging.parted.Goals as goal

pub loop-input-preserved : goal.loop-input-preserved
loop-input-preserved c = record {
  inputs = rw (c.in_ok-push.ensures.items, c.in_ok-push-2.ensures.items)
      (parted_push c.loop-input.rows.items c.loop-input.sources.items c.args.inputs.now c.loop-input.input-index _ c.loop-input-test.true c.loop-input.invariant.many c.loop-input.invariant.inputs);
  many = search rules;
}
