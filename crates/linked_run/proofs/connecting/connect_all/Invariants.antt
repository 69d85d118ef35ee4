use Rattle.std.proofs.Common.{take}
use Rattle.pair_machine.specs.Courses.{Pairwise}
use Rattle.pair_machine.specs.Lists.{Each}
use Rattle.linked_run.specs.Drafts.{Grows, LeadsToAll}
use Rattle.linked_run.specs.Linked.{AreLinked, ids_of}
use Rattle.linked_run.proofs.connecting.connect_all.Given as goal

abbrev pub invariant-loop-from : goal.invariant-loop-from
invariant-loop-from g l = record {
  grown : Pairwise Grows l.initial.drafts l.drafts;
  linked : AreLinked l.drafts l.drafts;
  leads : Each (λ m. LeadsToAll l.plan m (ids_of l.initial.drafts)) (take l.from l.drafts);
}
