use Rattle.std.proofs.Common.{ℕ, List}
use Rattle.trio_machine.specs.declared.event.TrioEvent.{TrioEvent}
use Rattle.trio_drain.specs.Order.{IsBlock, MayBegin, Start}
use Rattle.trio_drain.specs.Progress.{IsAfter, Keeps}
use Rattle.trio_drain.proofs.Along.{Left}
use Rattle.trio_drain.proofs.next.repeat.Given as goal

abbrev pub invariant-loop-turn : goal.invariant-loop-turn
invariant-loop-turn l = record {
  keeps : Keeps l.fn.core l.core;
  left : (b : Start) (done : List TrioEvent) (n : ℕ) → MayBegin b → IsAfter b l.fn.core done → IsBlock b done l.event n → Left b done l.event n l.core;
}
