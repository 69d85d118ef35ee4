use Rattle.std.proofs.Common.{◌≤◌, sym, subst, ap}
use Rattle.trio_machine.specs.declared.node.TrioNode.TheVariants as node
use Rattle.trio_nodes.specs.ControllerView.{node_of}
use Rattle.trio_core.specs.declared.member.Member.TheVariants as member
use Rattle.trio_core.proofs.Acting.{on_ok-map}
use Rattle.trio_core.proofs.OpenPlan.{sources_within}
use Rattle.trio_core.proofs.Opened.{control_opens, joins}
use Rattle.trio_core.proofs.opening.add_control.Goals as goal

pub new-requires-clause-some : goal.new-requires-clause-some
new-requires-clause-some c = subst (λ n. 1 ≤ n) (sym c.sources.ensures) (sources_within c.args.plan.now c.requires.limits c.args.stage c.args.part c.requires.there).0

pub new-requires-clause-few : goal.new-requires-clause-few
new-requires-clause-few c = subst (λ n. n ≤ 8) (sym c.sources.ensures) (sources_within c.args.plan.now c.requires.limits c.args.stage c.args.part c.requires.there).1

pub returns-clause-more : goal.returns-clause-more
returns-clause-more c =
    on_ok-map c.add.result _ _
    (λ list. (joins c.args.plan.now (node.Control c.args.stage c.args.part) c.id-name.result (member.Control c.in_ok-control.control) c.args.stations.now.items c.add.new.stations.items list c.id-name.ensures
    (ap node_of c.in_ok-control.ensures.opening) (control_opens c.args.plan.now c.args.stage c.sources.result c.in_ok-control.control c.sources.ensures c.in_ok-control.ensures.stands)).more)
    c.add.ensures

pub returns-clause-there : goal.returns-clause-there
returns-clause-there c =
    on_ok-map c.add.result _ _
    (λ list. (joins c.args.plan.now (node.Control c.args.stage c.args.part) c.id-name.result (member.Control c.in_ok-control.control) c.args.stations.now.items c.add.new.stations.items list c.id-name.ensures
    (ap node_of c.in_ok-control.ensures.opening) (control_opens c.args.plan.now c.args.stage c.sources.result c.in_ok-control.control c.sources.ensures c.in_ok-control.ensures.stands)).there)
    c.add.ensures
