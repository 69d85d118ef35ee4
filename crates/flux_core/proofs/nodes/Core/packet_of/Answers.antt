use Rattle.flux_core.specs.CoreView.{core_of}
use Rattle.flux_core.proofs.NodeActs.{if_err-map, if_ok-map}
use Rattle.flux_core.proofs.Taking.{taken_found, taken_missing, taken_timely}
use Rattle.flux_core.proofs.nodes.Core.packet_of.Goals as goal

pub returns-clause-asked : goal.returns-clause-asked
returns-clause-asked g c = if_ok-map c.taken_at.result _ _
    (λ t h. taken_found (core_of c.self.inside.plan c.self.inside.whole c.self.inside.stations.items) c.args.self.now c.self.view_is c.self.invariant.0 c.args.link c.args.index c.place_of-place.result c.requires.named c.place_of-place.ensures.place t h) c.taken_at.ensures.found

pub returns-clause-timely : goal.returns-clause-timely
returns-clause-timely g c = if_ok-map c.taken_at.result _ _ (λ t h. taken_timely _ c.args.link c.args.index t h) c.taken_at.ensures.found

pub returns-clause-refused : goal.returns-clause-refused
returns-clause-refused g c = if_err-map c.taken_at.result _ _
    (λ x h. taken_missing (core_of c.self.inside.plan c.self.inside.whole c.self.inside.stations.items) c.args.self.now c.self.view_is c.self.invariant.0 c.args.link c.args.index c.place_of-place.result c.requires.named c.place_of-place.ensures.place x h) c.taken_at.ensures.refused
