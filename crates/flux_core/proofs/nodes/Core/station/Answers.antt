use Rattle.std.proofs.Common.{◌≡◌, Some, slice_get, subst, sym}
use Rattle.plan_nodes.specs.NodeOrder.{nodes_of}
use Rattle.plan_nodes.specs.States.{id_of}
use Rattle.flux_core.specs.CoreView.{CoreView, core_of, found}
use Rattle.flux_core.proofs.Placing.{read_at}
use Rattle.flux_core.proofs.nodes.Core.station.Given as given
use Rattle.flux_core.proofs.nodes.Core.station.Goals as goal

-- the station that is read there is that of the node
here : (g : given.Over) (c : goal.After-index g) → (found c.args.node c.self.inside.stations.items ≡ Some c.index.result.now) × (id_of c.index.result.now.node ≡ c.args.node)
here g c = read_at (core_of c.self.inside.plan c.self.inside.whole c.self.inside.stations.items) c.self.invariant.0 c.args.node c.place_of.result
    (subst (λ (k : CoreView). slice_get (nodes_of k.plan) c.place_of.result ≡ Some c.args.node) (sym c.self.view_is) c.place_of.ensures.place) c.index.result.now c.index.ensures

pub returns-clause-value : goal.returns-clause-value
returns-clause-value g c = subst (λ (k : CoreView). found c.args.node k.stations ≡ Some c.index.result.now) c.self.view_is (here g c).0

pub returns-clause-id : goal.returns-clause-id
returns-clause-id g c = (here g c).1
