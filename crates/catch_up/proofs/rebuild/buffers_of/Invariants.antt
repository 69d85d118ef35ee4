use Rattle.std.proofs.Common.{◌≡◌, drop, fold, map, []}
use Rattle.catch_up.specs.Rebuild.{buffers_step, without_spare}
use Rattle.catch_up.proofs.rebuild.buffers_of.Given as goal

abbrev pub invariant-loop-entry : goal.invariant-loop-entry
invariant-loop-entry l = fold buffers_step (map without_spare l.buffers.items) (drop l.entry-index l.entries) ≡ fold buffers_step [] l.entries
