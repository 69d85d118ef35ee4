use Rattle.std.proofs.Common.{◌≡◌, take}
use Rattle.run_node.specs.Ends.{HaveRoom, links_of}
use Rattle.run_node.proofs.sending.reserve_all.Given as goal

abbrev pub invariant-loop-place : goal.invariant-loop-place
invariant-loop-place g l = record {
  links : links_of l.outs ≡ links_of l.initial.outs;
  room : HaveRoom l.packets (take l.place l.outs);
}
