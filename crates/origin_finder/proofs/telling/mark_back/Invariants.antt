use Rattle.std.proofs.Common.{◌≡◌, List, length}
use Rattle.tuple_edge.specs.declared.row.Row.{Row}
use Rattle.plan_reader.specs.declared.stage.Stage.{Stage}
use Rattle.cause_finder.specs.Trails.{AreTrails, IsBelow}
use Rattle.origin_finder.specs.Walking.{AreReached, chain_from, counting}
use Rattle.origin_finder.proofs.Walking.{up_to}
use Rattle.origin_finder.proofs.telling.mark_back.Given as goal

abbrev pub decreases-loop-at : goal.decreases-loop-at
decreases-loop-at l = up_to l.at

abbrev pub invariant-loop-at : goal.invariant-loop-at
invariant-loop-at l =
    (stage : Stage) (rows : List Row) → AreTrails stage rows l.known → IsBelow (length rows) l.fn.start → AreReached stage rows l.reached l.initial.roles → record {
      below : IsBelow (length rows) l.at;
      left : counting (chain_from stage rows l.low l.fn.start) l.initial.roles ≡ counting (chain_from stage rows l.low l.at) l.roles;
      reached : AreReached stage rows l.reached l.roles;
    }
