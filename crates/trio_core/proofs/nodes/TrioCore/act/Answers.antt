use Rattle.trio_machine.specs.Machine.{at_node}
use Rattle.trio_core.proofs.Acting.{if_err-map}
use Rattle.trio_core.proofs.Known.{applied_after, core_after, may_be_asked, refused_after}
use Rattle.trio_core.proofs.Placing.{placed, stands_at}
use Rattle.trio_core.proofs.nodes.TrioCore.act.Goals as goal

pub acts_at-requires-clause-asked : goal.acts_at-requires-clause-asked
acts_at-requires-clause-asked c = may_be_asked c.self.inside.plan c.self.inside.stations.items c.args.self.now c.args.event.now c.args.task.now c.place_of-place.result c.self.view_is c.self.invariant c.requires.named c.requires.asked
    (placed c.node.result (at_node c.args.event.now) c.deref.result.now c.self.inside.stations.items c.place_of-place.result c.deref.ensures.value c.node.ensures c.place_of-place.ensures)

pub invariant_of-self : goal.invariant_of-self
invariant_of-self c = core_after c.self.inside.plan c.self.inside.stations.items c.args.self.now c.args.event.now c.args.task.now c.place_of-place.result c.self.view_is c.self.invariant c.requires.named c.requires.asked
    (placed c.node.result (at_node c.args.event.now) c.deref.result.now c.self.inside.stations.items c.place_of-place.result c.deref.ensures.value c.node.ensures c.place_of-place.ensures)
    c.acts_at.result c.acts_at.new.stations.items c.acts_at.ensures.acted c.acts_at.ensures.unchanged

pub returns-clause-core : goal.returns-clause-core
returns-clause-core c = core_after c.self.inside.plan c.self.inside.stations.items c.args.self.now c.args.event.now c.args.task.now c.place_of-place.result c.self.view_is c.self.invariant c.requires.named c.requires.asked
    (placed c.node.result (at_node c.args.event.now) c.deref.result.now c.self.inside.stations.items c.place_of-place.result c.deref.ensures.value c.node.ensures c.place_of-place.ensures)
    c.acts_at.result c.acts_at.new.stations.items c.acts_at.ensures.acted c.acts_at.ensures.unchanged

pub returns-clause-applied : goal.returns-clause-applied
returns-clause-applied c = applied_after c.self.inside.plan c.self.inside.stations.items c.args.self.now c.args.event.now c.args.task.now c.place_of-place.result c.self.view_is c.self.invariant c.requires.named c.requires.asked
    (placed c.node.result (at_node c.args.event.now) c.deref.result.now c.self.inside.stations.items c.place_of-place.result c.deref.ensures.value c.node.ensures c.place_of-place.ensures)
    c.acts_at.result c.acts_at.new.stations.items c.acts_at.ensures.acted

pub returns-clause-refused : goal.returns-clause-refused
returns-clause-refused c =
    let z = stands_at (at_node c.args.event.now) c.self.inside.stations.items c.place_of-place.result
    (placed c.node.result (at_node c.args.event.now) c.deref.result.now c.self.inside.stations.items c.place_of-place.result c.deref.ensures.value c.node.ensures c.place_of-place.ensures) in
    if_err-map c.acts_at.result _ _
    (λ x h. refused_after c.self.inside.plan c.self.inside.stations.items c.args.self.now c.args.event.now c.args.task.now c.place_of-place.result c.self.view_is c.self.invariant c.requires.named c.requires.asked
    (placed c.node.result (at_node c.args.event.now) c.deref.result.now c.self.inside.stations.items c.place_of-place.result c.deref.ensures.value c.node.ensures c.place_of-place.ensures)
    z.at x z.there (h z.at z.there))
    c.acts_at.ensures.refused
