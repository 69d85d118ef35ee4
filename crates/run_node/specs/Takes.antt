-- Arrivals that a node takes, one after another.
use Rattle.std.specs.Prelude.{◌≡◌, ℕ, List, length}
use Rattle.tuple_edge.specs.declared.event.Event.TheVariants as event
use Rattle.tuple_edge.specs.declared.node.NodeId.{NodeId}
use Rattle.pair_machine.specs.Links.{link}
use Rattle.run_node.specs.Fits.{HasCome, HasHappened, Taken}
use Rattle.run_node.specs.NodeView.{NodeView, name_of}
use Rattle.node_tasks.specs.Steps.{StepByStep}

-- a node takes an arrival, this one, which a link gave it, and no link gave another one
pub record Takes {A T : Type 0} (id : A → NodeId) (before after : NodeView A T) (taken : Taken) : Type 0 where
  pub name : name_of id after ≡ name_of id before
  pub came : HasCome taken before.ins after.ins
  pub event : HasHappened (event.Take (link taken.from (id before.state)) taken.arrival.index) before.history after.history

-- a node takes nothing, and no link gave an arrival: what was not taken is still in its link
pub record TakesNothing {A T : Type 0} (id : A → NodeId) (before after : NodeView A T) : Type 0 where
  pub name : name_of id after ≡ name_of id before
  pub links : after.ins ≡ before.ins
  pub history : after.history ≡ before.history

-- a node has taken so many arrivals, one after another, and its links gave no others
pub record HasTaken {A T : Type 0} (id : A → NodeId) (times : ℕ) (before after : NodeView A T) : Type 0 where
  pub between : NodeView A T
  pub taken : List Taken
  pub many : length taken ≡ times
  pub takes : StepByStep (Takes id) before between taken
  pub stays : TakesNothing id between after
