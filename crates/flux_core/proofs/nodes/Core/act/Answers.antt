use Rattle.std.proofs.Common.{◌∙◌, Some, ap, sym}
use Rattle.flux_core.specs.CoreView.{core_of, gone_by}
use Rattle.flux_core.proofs.Done.{Outcome, outcome}
use Rattle.flux_core.proofs.nodes.Core.act.Given as given
use Rattle.flux_core.proofs.nodes.Core.act.Goals as goal

-- what came of it
came : (g : given.Over) (c : goal.After-act_at g) → Outcome c.act_at.result c.args.self.now (core_of c.self.inside.plan c.self.inside.whole c.act_at.new.stations.items) c.args.event.now
came g c = outcome (core_of c.self.inside.plan c.self.inside.whole c.self.inside.stations.items) c.args.self.now c.act_at.new.stations.items c.args.event.now c.args.task.now c.place_of-place.result c.act_at.result
    c.self.view_is c.self.invariant.0 c.requires.named c.requires.may c.requires.asked (c.place_of-place.ensures.place ∙ ap Some c.node.ensures) c.act_at.ensures.acted c.act_at.ensures.refused c.act_at.ensures.unchanged

pub invariant_of-self : goal.invariant_of-self
invariant_of-self g c = ((came g c).core, λ all. (came g c).gone ∙ (ap gone_by (sym c.self.view_is) ∙ c.self.invariant.1 all))

pub returns-clause-applied : goal.returns-clause-applied
returns-clause-applied g c = (came g c).applied

pub returns-clause-refused : goal.returns-clause-refused
returns-clause-refused g c = (came g c).refused

pub returns-clause-unchanged : goal.returns-clause-unchanged
returns-clause-unchanged g c = (came g c).unchanged

pub returns-clause-core : goal.returns-clause-core
returns-clause-core g c = (came g c).core
