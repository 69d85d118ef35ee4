-- What changed of a core when a node did a task.
use Rattle.std.specs.Prelude.{◌≡◌, ◌≢◌, Some}
use Rattle.trio_machine.specs.declared.node.TrioNode.{TrioNode}
use Rattle.trio_core.specs.CoreView.{CoreView, StationView, found}
use Rattle.trio_core.specs.declared.task.TrioTask.{TrioTask}
use Rattle.trio_core.specs.Steps.{HasActed}

-- the station of a node did a task, and the others stayed as they were
pub record HasChanged (n : TrioNode) (t : TrioTask) (old new : CoreView) : Type 0 where
  pub plan : new.plan ≡ old.plan
  pub before : StationView
  pub after : StationView
  pub was : found n old.stations ≡ Some before
  pub now : found n new.stations ≡ Some after
  pub acted : HasActed t before after
  pub others : (m : TrioNode) → m ≢ n → found m new.stations ≡ found m old.stations
