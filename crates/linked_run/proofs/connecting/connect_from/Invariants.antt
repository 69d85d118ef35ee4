use Rattle.std.proofs.Common.{◌≡◌, take}
use Rattle.std.specs.Prelude.{Some, slice_get}
use Rattle.pair_machine.specs.Courses.{Pairwise}
use Rattle.linked_run.specs.Drafts.{Grows, LeadsToAll}
use Rattle.linked_run.specs.Linked.{AreLinked, ids_of}
use Rattle.run_node.specs.NodeView.{NodeName}
use Rattle.linked_run.proofs.connecting.connect_from.Given as goal

abbrev pub invariant-loop-to : goal.invariant-loop-to
invariant-loop-to g l = record {
  grown : Pairwise Grows l.initial.drafts l.drafts;
  linked : AreLinked l.drafts l.drafts;
  leads : (m : NodeName) → slice_get l.drafts l.from ≡ Some m → LeadsToAll l.plan m (take l.to (ids_of l.initial.drafts));
}
