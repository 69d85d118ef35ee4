use Rattle.std.proofs.Common.{◌≡◌, vec_len}
use Rattle.run_node.specs.Ends.{links_in}
use Rattle.run_node.proofs.receiving.waiting_at.Given as goal

abbrev pub invariant-loop-looked : goal.invariant-loop-looked
invariant-loop-looked g l = (links_in l.ins.items ≡ links_in l.initial.ins.items) × (vec_len l.ins ≡ vec_len l.initial.ins)
