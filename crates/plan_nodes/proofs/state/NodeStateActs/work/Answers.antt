use Rattle.std.proofs.Common.{◌≡◌, ◌≤◌, ◌+◌, ◌∙◌, Ok, Err, arith, length, subst, sym}
use Rattle.tuple_edge.specs.Limits.{most_packets}
use Rattle.tuple_edge.specs.declared.event.Worked.TheVariants.{Did}
use Rattle.plan_nodes.specs.States.{Admits, HasWorkedOnce}
use Rattle.plan_nodes.proofs.Stepping.{both_ways, run_failed, run_more}
use Rattle.plan_nodes.proofs.state.NodeStateActs.work.Goals as goal

pub loop-count-preserved : goal.loop-count-preserved
loop-count-preserved c =
    let before = c.loop-count.out.packets in
    let after = c.work_once.new.out.packets in
    let did : c.work_once.result ≡ Ok Did = cc in
    let work = subst (λ r. HasWorkedOnce c.loop-count.self c.work_once.new.self r before after) did c.work_once.ensures in
    let same : c.packets_of_work.result ≡ c.packets_of_work-each.result = omega (arith, c.if-packets_of_work-each.false) in
    let fits : length before + c.packets_of_work-each.result ≤ most_packets = omega (arith, c.len.ensures, c.if-not-fits.false) in
    record {
      run = run_more c.args.self.now c.loop-count.self c.work_once.new.self c.loop-count.count c.packets_of_work-each.result before after c.loop-count.invariant.run
          (sym c.packets_of_work.ensures.value ∙ same) fits work;
      small = c.loop-count.invariant.small;
    }

pub returns-in-Ok-Idle-clause-of_plan : goal.returns-in-Ok-Idle-clause-of_plan
returns-in-Ok-Idle-clause-of_plan c plan of = c.work_once.ensures.done.acted.of_plan plan (c.loop-count.invariant.run.of_plan plan of)

pub returns-then-count-eq0-clause-of_plan : goal.returns-then-count-eq0-clause-of_plan
returns-then-count-eq0-clause-of_plan c plan of = c.work_once.ensures.done.acted.of_plan plan (c.loop-count.invariant.run.of_plan plan of)

pub returns-else-count-eq0-clause-of_plan : goal.returns-else-count-eq0-clause-of_plan
returns-else-count-eq0-clause-of_plan c plan of = c.work_once.ensures.done.acted.of_plan plan (c.loop-count.invariant.run.of_plan plan of)

pub returns-else-count-eq0-clause-steps : goal.returns-else-count-eq0-clause-steps
returns-else-count-eq0-clause-steps c =
    let before = c.loop-count.out.packets in
    let after = c.work_once.new.out.packets in
    let lacked : c.work_once.result ≡ Err c.in-Err.lack = cc in
    let work = subst (λ r. HasWorkedOnce c.loop-count.self c.work_once.new.self r before after) lacked c.work_once.ensures in
    let some : 1 ≤ c.loop-count.count = omega (arith, c.if-count-eq0.false) in
    (run_failed c.args.self.now c.loop-count.self c.work_once.new.self c.in-Err.lack c.loop-count.count c.packets_of_work-each.result before after c.loop-count.invariant.run some work).steps

pub returns-then-not-fits-clause-inputs : goal.returns-then-not-fits-clause-inputs
returns-then-not-fits-clause-inputs c = c.loop-count.invariant.run.came

pub returns-clause-inputs : goal.returns-clause-inputs
returns-clause-inputs c = c.loop-count.invariant.run.came

pub returns-in-Ok-Idle-clause-inputs : goal.returns-in-Ok-Idle-clause-inputs
returns-in-Ok-Idle-clause-inputs c = both_ways (Admits c.args.self.now) (Admits c.loop-count.self) (Admits c.work_once.new.self) c.loop-count.invariant.run.came c.work_once.ensures.done.acted.inputs

pub returns-else-count-eq0-clause-inputs : goal.returns-else-count-eq0-clause-inputs
returns-else-count-eq0-clause-inputs c = both_ways (Admits c.args.self.now) (Admits c.loop-count.self) (Admits c.work_once.new.self) c.loop-count.invariant.run.came c.work_once.ensures.done.acted.inputs
