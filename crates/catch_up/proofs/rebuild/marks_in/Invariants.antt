use Rattle.std.proofs.Common.{◌≡◌, drop, fold, length, replicate}
use Rattle.catch_up.specs.Rebuild.{marks_step}
use Rattle.catch_up.proofs.rebuild.marks_in.Given as goal

abbrev pub invariant-loop-entry : goal.invariant-loop-entry
invariant-loop-entry l = record {
  rest : fold marks_step l.marks.items (drop l.entry-index l.entries) ≡ fold marks_step (replicate l.edges 0) l.entries;
  edges : length l.marks.items ≡ l.edges;
}
