use Rattle.std.proofs.Common.{◌≡◌, ◌+◌, arith}
use Rattle.listed_run.specs.Listed.{first_line}
use Rattle.listed_run.proofs.Lines.{lined_next}
use Rattle.listed_run.proofs.run.lined.Goals as goal

pub loop-event-preserved : goal.loop-event-preserved
loop-event-preserved c =
    let at : c.loop-event.line ≡ first_line + c.loop-event.event-index = c.loop-event.invariant.line in
    record {
      line = omega (arith, at);
      lines = lined_next c.args.events.now c.loop-event.event-index _ first_line c.loop-event.line c.loop-event.lines.items c.push.new.self.items c.loop-event-test.true at c.loop-event.invariant.lines
          c.in_ok-push.ensures.items;
    }
