use Rattle.std.proofs.Common.{◌≡◌, ℕ}
use Rattle.run_node.specs.Ends.{HaveRoom, links_of}
use Rattle.run_node.proofs.sending.flush_all.Given as goal

abbrev pub invariant-loop-place : goal.invariant-loop-place
invariant-loop-place g l = record {
  links : links_of l.outs ≡ links_of l.initial.outs;
  room : (k : ℕ) → HaveRoom k l.initial.outs → HaveRoom k l.outs;
}
