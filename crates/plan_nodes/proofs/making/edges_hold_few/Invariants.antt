use Rattle.std.proofs.Common.{◌<◌, ◌-◌, ℕ}
use Rattle.flux_producer.specs.ProducerView.{buffer_at}
use Rattle.plan_nodes.proofs.making.edges_hold_few.Given as goal

abbrev pub invariant-loop-target : goal.invariant-loop-target
invariant-loop-target l = (t : ℕ) → t < l.target → (buffer_at l.fn.producer t).produced - (buffer_at l.fn.producer t).low < l.fn.hold
