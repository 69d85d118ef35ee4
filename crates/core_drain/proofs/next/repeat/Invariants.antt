use Rattle.std.proofs.Common.{ℕ, List}
use Rattle.tuple_edge.specs.declared.event.Event.{Event}
use Rattle.core_drain.specs.Progress.{IsAfter, IsBlock, Keeps, MayBegin, Start}
use Rattle.core_drain.proofs.Along.{Left}
use Rattle.core_drain.proofs.next.repeat.Given as goal

abbrev pub invariant-loop-turn : goal.invariant-loop-turn
invariant-loop-turn g l = record {
  keeps : Keeps l.fn.core l.core;
  left : (b : Start) (done : List Event) (n : ℕ) → MayBegin b → IsAfter b l.fn.core l.fn.events.events done → IsBlock b done l.event n → Left b done l.event n l.core l.events.events;
}
