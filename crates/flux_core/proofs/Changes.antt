-- What changed of a core when a node did what it was asked.
use Rattle.std.specs.Prelude.{◌≡◌, ◌≢◌, Some}
use Rattle.tuple_edge.specs.declared.node.NodeId.{NodeId}
use Rattle.plan_nodes.specs.States.{id_of}
use Rattle.flux_core.specs.CoreView.{CoreView, StationView, names_of, standing, station}
use Rattle.flux_core.specs.declared.asked.Asked.{Asked}
use Rattle.flux_core.specs.Steps.{HasActed}

-- the node of a name did what it was asked, and the others stayed as they were
pub record HasChanged (n : NodeId) (t : Asked) (old new : CoreView) : Type 0 where
  pub plan : new.plan ≡ old.plan
  pub whole : new.whole ≡ old.whole
  pub names : names_of new.stations ≡ names_of old.stations
  pub others : (m : NodeId) → m ≢ n → station new m ≡ station old m
  pub before : StationView
  pub after : StationView
  pub id : id_of before.node ≡ n
  pub was : station old n ≡ standing (Some before)
  pub now : station new n ≡ standing (Some after)
  pub acted : HasActed t before after
