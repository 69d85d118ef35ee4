use Rattle.std.proofs.Common.{◌≡◌, List, drop}
use Rattle.row_cause.specs.Causes.{Cause}
use Rattle.row_origin.specs.Marks.{asked_from, with_causes}
use Rattle.origin_finder.specs.Said.{AreCaused}
use Rattle.origin_finder.specs.Walking.{AreReached}
use Rattle.origin_finder.proofs.telling.mark_asked.Given as goal

abbrev pub invariant-loop-n : goal.invariant-loop-n
invariant-loop-n l = record {
  reached : AreReached l.stage l.rows l.reached l.roles;
  roles : (causes : List Cause) → AreCaused l.stage l.rows l.said causes
      → with_causes l.stage.op (asked_from 0 l.asked causes) l.initial.roles ≡ with_causes l.stage.op (asked_from l.n l.asked (drop l.n causes)) l.roles;
}
