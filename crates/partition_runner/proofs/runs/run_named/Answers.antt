use Rattle.std.proofs.Common.{subst}
use Rattle.plan_nodes.specs.States.{Admits}
use Rattle.plan_nodes.specs.declared.state.NodeState.{NodeState}
use Rattle.pair_machine.specs.Lists.{Each}
use Rattle.linked_run.specs.Runs.{AllAdmit, parts_in}
use Rattle.partition_runner.specs.Feeds.{HasAll}
use Rattle.partition_runner.specs.declared.feed.Beforehand.{Beforehand}
use Rattle.partition_runner.proofs.Fitting.{all_have_come, have_all}
use Rattle.partition_runner.proofs.Parts.{legal_left}
use Rattle.partition_runner.proofs.TapLaw.{tap_of_left, tap_of_output}
use Rattle.partition_runner.proofs.runs.run_named.Goals as goal

pub returns-then-failed-clause-tap : goal.returns-then-failed-clause-tap
returns-then-failed-clause-tap g c =
    let e = c.run_ready-parts.ensures in
    let inputs = g.N.FedNames.inputs in
    let parts = parts_in g.K.Keeps.kept c.run_ready-parts.result.parts.items in
    let left = c.filled-left.ensures in
    let may : AllAdmit Admits inputs parts = have_all (Beforehand g.row.N.Denot) inputs parts (subst (Each (λ (s : NodeState). Beforehand g.row.N.Denot × HasAll inputs s)) left.of_parts.nodes left.fits) in
    tap_of_output g.N.RunNames.plan inputs g.N.RunNames.script parts (e.run inputs may c.times_of.ensures) (g.T.Draws.given c.run_ready-parts.result.tap) e.tap.0 e.tap.1 e.tap.2

pub returns-clause-run : goal.returns-clause-run
returns-clause-run g c =
    let e = c.run_ready-parts.ensures in
    let inputs = g.N.FedNames.inputs in
    let parts = parts_in g.K.Keeps.kept c.run_ready-parts.result.parts.items in
    let left = c.filled-left.ensures in
    let may : AllAdmit Admits inputs parts = have_all (Beforehand g.row.N.Denot) inputs parts (subst (Each (λ (s : NodeState). Beforehand g.row.N.Denot × HasAll inputs s)) left.of_parts.nodes left.fits) in
    legal_left g.N.RunNames.plan inputs g.N.RunNames.script g.K.Keeps.kept parts c.filled-left.result.0 (e.run inputs may c.times_of.ensures) (e.held c.requires.holds) left.of_parts
    (all_have_come (Beforehand g.row.N.Denot) inputs c.filled-left.result.0.nodes.items left.fits)

pub returns-clause-tap : goal.returns-clause-tap
returns-clause-tap g c =
    let e = c.run_ready-parts.ensures in
    let inputs = g.N.FedNames.inputs in
    let parts = parts_in g.K.Keeps.kept c.run_ready-parts.result.parts.items in
    let left = c.filled-left.ensures in
    let may : AllAdmit Admits inputs parts = have_all (Beforehand g.row.N.Denot) inputs parts (subst (Each (λ (s : NodeState). Beforehand g.row.N.Denot × HasAll inputs s)) left.of_parts.nodes left.fits) in
    tap_of_left g.N.RunNames.plan inputs g.N.RunNames.script parts (e.run inputs may c.times_of.ensures) g.K.Keeps.kept (g.T.Draws.given c.run_ready-parts.result.tap) e.tap.0 e.tap.1 e.tap.2 c.filled-left.result.0 left.of_parts
