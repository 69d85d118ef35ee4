use Rattle.std.proofs.Common.{◌≡◌, drop, fold, length}
use Rattle.catch_up.specs.Rebuild.{heads_step}
use Rattle.catch_up.proofs.rebuild.offer_heads.Given as goal

abbrev pub invariant-loop-entry : goal.invariant-loop-entry
invariant-loop-entry l = record {
  rest : fold heads_step l.merge (drop l.entry-index l.entries) ≡ fold heads_step l.fn.merge l.entries;
  even : length l.merge.waiting ≡ length l.merge.marks;
  edges : length l.merge.marks ≡ length l.fn.merge.marks;
}
