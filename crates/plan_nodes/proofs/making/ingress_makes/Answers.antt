use Rattle.std.proofs.Common.{◌≡◌, ◌≤◌, [], Ok, Err, arith, refl, subst, sym}
use Rattle.tuple_edge.specs.declared.event.Worked.TheVariants.{Did}
use Rattle.node_tasks.specs.declared.task.Task.TheVariants as task
use Rattle.plan_nodes.specs.States.{Admits, EachHoldsFew, HasDone, HasMade, StandsFor}
use Rattle.plan_nodes.specs.declared.state.NodeState.{NodeState}
use Rattle.plan_nodes.specs.declared.state.NodeState.TheVariants as state
use Rattle.plan_nodes.proofs.Acting.{ingress_made_so}
use Rattle.plan_nodes.proofs.Stepping.{both_ways, make_failed, make_more}
use Rattle.plan_nodes.proofs.making.ingress_makes.Goals as goal

pub loop-done-preserved : goal.loop-done-preserved
loop-done-preserved c =
    let was = c.loop-done.invariant in
    let did : c.make.result ≡ Ok Did = cc in
    let e = c.make.ensures in
    let act = subst (λ r. HasDone (state.Ingress c.loop-done.node) (state.Ingress c.make.new.self) task.Make r []) did (ingress_made_so c.loop-done.node c.make.new.self c.make.result e.made e.unchanged e.of_plan e.course) in
    let wanted = subst (λ h. EachHoldsFew h c.loop-done.node) c.hold.ensures.value (c.if-not-holds_few.ensures.0 refl) in record {
      made = make_more c.args.plan.now (state.Ingress c.args.node.now) (state.Ingress c.loop-done.node) (state.Ingress c.make.new.self) c.loop-done.done was.made wanted act;
      came = both_ways (Admits (state.Ingress c.args.node.now)) (Admits (state.Ingress c.loop-done.node)) (Admits (state.Ingress c.make.new.self)) was.came act.acted.inputs;
      of_plan = λ plan of. c.make.ensures.of_plan plan (was.of_plan plan of);
    }

pub returns-then-done-eq0-clause-unchanged : goal.returns-then-done-eq0-clause-unchanged
returns-then-done-eq0-clause-unchanged c plan inputs x stands =
    let none : c.loop-done.done ≡ 0 = omega (arith, c.if-done-eq0.true) in
    let same : state.Ingress c.loop-done.node ≡ state.Ingress c.args.node.now =
    subst (HasMade c.args.plan.now (state.Ingress c.args.node.now) (state.Ingress c.loop-done.node)) none c.loop-done.invariant.made in
    let lacked : c.make.result ≡ Err c.in-Err.lack = cc in
    let e = c.make.ensures in
    let act = subst (λ r. HasDone (state.Ingress c.loop-done.node) (state.Ingress c.make.new.self) task.Make r []) lacked (ingress_made_so c.loop-done.node c.make.new.self c.make.result e.made e.unchanged e.of_plan e.course) in
    act.acted.unchanged plan inputs x (subst (λ (s : NodeState). StandsFor plan inputs s x) (sym same) stands)

pub returns-else-done-eq0-clause-made : goal.returns-else-done-eq0-clause-made
returns-else-done-eq0-clause-made c =
    let some : 1 ≤ c.loop-done.done = omega (arith, c.if-done-eq0.false) in
    let lacked : c.make.result ≡ Err c.in-Err.lack = cc in
    let e = c.make.ensures in
    let act = subst (λ r. HasDone (state.Ingress c.loop-done.node) (state.Ingress c.make.new.self) task.Make r []) lacked (ingress_made_so c.loop-done.node c.make.new.self c.make.result e.made e.unchanged e.of_plan e.course) in
    make_failed c.args.plan.now (state.Ingress c.args.node.now) (state.Ingress c.loop-done.node) (state.Ingress c.make.new.self) c.in-Err.lack c.loop-done.done c.loop-done.invariant.made some act

pub returns-then-done-eq0-clause-inputs : goal.returns-then-done-eq0-clause-inputs
returns-then-done-eq0-clause-inputs c =
    let e = c.make.ensures in
    both_ways (Admits (state.Ingress c.args.node.now)) (Admits (state.Ingress c.loop-done.node)) (Admits (state.Ingress c.make.new.self)) c.loop-done.invariant.came
    (ingress_made_so c.loop-done.node c.make.new.self c.make.result e.made e.unchanged e.of_plan e.course).acted.inputs

pub returns-else-done-eq0-clause-inputs : goal.returns-else-done-eq0-clause-inputs
returns-else-done-eq0-clause-inputs c =
    let e = c.make.ensures in
    both_ways (Admits (state.Ingress c.args.node.now)) (Admits (state.Ingress c.loop-done.node)) (Admits (state.Ingress c.make.new.self)) c.loop-done.invariant.came
    (ingress_made_so c.loop-done.node c.make.new.self c.make.result e.made e.unchanged e.of_plan e.course).acted.inputs

pub returns-in-Ok-Idle-clause-inputs : goal.returns-in-Ok-Idle-clause-inputs
returns-in-Ok-Idle-clause-inputs c =
    let e = c.make.ensures in
    both_ways (Admits (state.Ingress c.args.node.now)) (Admits (state.Ingress c.loop-done.node)) (Admits (state.Ingress c.make.new.self)) c.loop-done.invariant.came
    (ingress_made_so c.loop-done.node c.make.new.self c.make.result e.made e.unchanged e.of_plan e.course).acted.inputs
