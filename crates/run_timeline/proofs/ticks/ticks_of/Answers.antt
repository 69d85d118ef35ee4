use Rattle.std.proofs.Common.{arith}
use Rattle.std.proofs.lemmas.Grind.{common_steps}
use Rattle.std.proofs.lemmas.List.FromFn.{map-range_with_len_more}
use Rattle.run_timeline.specs.Ticks.{tick_at}
use Rattle.run_timeline.proofs.ticks.ticks_of.Goals as goal

pub loop-part-preserved : goal.loop-part-preserved
loop-part-preserved c =
    let more = map-range_with_len_more (tick_at c.args.frames.now) 0 c.loop-part.part c.loop-part.part (omega arith) in
    grind (arith, common_steps)
