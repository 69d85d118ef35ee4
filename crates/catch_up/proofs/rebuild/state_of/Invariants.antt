use Rattle.std.proofs.Common.{◌≡◌, drop, fold, [], None}
use Rattle.catch_up.specs.Rebuild.{AllNext, keyed_step}
use Rattle.catch_up.proofs.rebuild.state_of.Given as goal

abbrev pub invariant-loop-entry : goal.invariant-loop-entry
invariant-loop-entry l = record {
  rest : AllNext l.fn.spec [] l.entries
      → (fold keyed_step l.state.entries (drop l.entry-index l.entries) ≡ fold keyed_step [] l.entries) × AllNext l.fn.spec l.state.entries (drop l.entry-index l.entries);
  settings : (l.state.spec ≡ l.fn.spec) × (l.state.old ≡ None);
}
