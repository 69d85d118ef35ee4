use Rattle.trio_core.proofs.Opened.{core_opens, no_rows}
use Rattle.trio_core.specs.CoreView.{core_of}
use Rattle.trio_core.proofs.nodes.TrioCore.new.Goals as goal

pub invariant_of-result : goal.invariant_of-result
invariant_of-result c = (core_opens c.in_ok-copied.field-0 c.args.plan.now c.rows.result.now c.args.trades.now c.in_ok-stations.stations.items c.in_ok-copied.ensures c.stages-stages.ensures.limits c.requires.one_source
    c.rows.ensures.rows c.rows.ensures.limits c.requires.unmerged c.in_ok-stations.ensures.opens c.in_ok-stations.ensures.there).is

pub returns-clause-opens : goal.returns-clause-opens
returns-clause-opens c = (core_opens c.in_ok-copied.field-0 c.args.plan.now c.rows.result.now c.args.trades.now c.in_ok-stations.stations.items c.in_ok-copied.ensures c.stages-stages.ensures.limits c.requires.one_source
    c.rows.ensures.rows c.rows.ensures.limits c.requires.unmerged c.in_ok-stations.ensures.opens c.in_ok-stations.ensures.there).stands

pub returns-clause-inputs : goal.returns-clause-inputs
returns-clause-inputs c = (core_opens c.in_ok-copied.field-0 c.args.plan.now c.rows.result.now c.args.trades.now c.in_ok-stations.stations.items c.in_ok-copied.ensures c.stages-stages.ensures.limits c.requires.one_source
    c.rows.ensures.rows c.rows.ensures.limits c.requires.unmerged c.in_ok-stations.ensures.opens c.in_ok-stations.ensures.there).inputs_are

pub returns-clause-none : goal.returns-clause-none
returns-clause-none c = no_rows (core_of c.in_ok-copied.field-0 c.in_ok-stations.stations.items) (core_opens c.in_ok-copied.field-0 c.args.plan.now c.rows.result.now c.args.trades.now c.in_ok-stations.stations.items c.in_ok-copied.ensures
    c.stages-stages.ensures.limits c.requires.one_source c.rows.ensures.rows c.rows.ensures.limits c.requires.unmerged c.in_ok-stations.ensures.opens c.in_ok-stations.ensures.there).stands
