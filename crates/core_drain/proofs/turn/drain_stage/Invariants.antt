use Rattle.core_drain.specs.Progress.{IsAfter, Keeps, MayBegin, Start, done_before}
use Rattle.core_drain.proofs.turn.drain_stage.Given as goal

abbrev pub invariant-loop-part : goal.invariant-loop-part
invariant-loop-part g l = record {
  keeps : Keeps l.fn.core l.core;
  after : (b : Start) → MayBegin b → IsAfter b l.fn.core l.fn.events.events (done_before b l.stage 0) → IsAfter b l.core l.events.events (done_before b l.stage l.part);
}
