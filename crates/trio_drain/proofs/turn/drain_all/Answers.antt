use Rattle.std.proofs.Common.{◌+◌, ◌++◌, ◌∙◌, [], ap, length}
use Rattle.trio_machine.specs.Drain.{drain_events}
use Rattle.trio_machine.specs.declared.node.TrioNode.TheVariants as node
use Rattle.plan_reader.specs.PlanView.{PlanView}
use Rattle.trio_drain.specs.Order.{before_turn, done_before, flow_at, turn_of}
use Rattle.trio_drain.proofs.Along.{listed_on, on_err, on_err_map, on_ok_map}
use Rattle.trio_drain.proofs.Blocks.{last_turn}
use Rattle.trio_drain.proofs.Loops.{egress_stage, stages_at}
use Rattle.trio_drain.proofs.Turns.{makes_next}
use Rattle.trio_drain.proofs.turn.drain_all.Goals as goal

pub drain_into-requires-clause-stage : goal.drain_into-requires-clause-stage
drain_into-requires-clause-stage c = egress_stage c.args.core.now.plan c.plan.result.now c.drain_stages.new.core c.stage_count-stages.result (c.drain_stages.ensures.keeps.plan ∙ c.repeat.ensures.keeps.plan) c.plan.ensures c.stage_count-stages.ensures.value

pub returns-in_err-repeat-clause-within : goal.returns-in_err-repeat-clause-within
returns-in_err-repeat-clause-within c = on_err c.from_residual.result (λ b m a. (let z = makes_next b m in c.in_err-repeat.ensures.within b [] z.count m a z.block))

pub returns-in_err-drain_stages-clause-within : goal.returns-in_err-drain_stages-clause-within
returns-in_err-drain_stages-clause-within c = on_err c.from_residual-in_err-drain_stages.result (λ b m a.
    (let z = makes_next b m in
    let x = listed_on b c.repeat.new.core _ (done_before b 1 0) z.listed (c.in_ok-repeat.ensures.done b [] z.count m a z.block) in
    c.in_err-drain_stages.ensures.within b m x))

pub returns-clause-done : goal.returns-clause-done
returns-clause-done c = on_ok_map c.drain_into.result (λ done b m a.
    (let z = makes_next b m in
    let x = listed_on b c.repeat.new.core _ (done_before b 1 0) z.listed (c.in_ok-repeat.ensures.done b [] z.count m a z.block) in
    let y = c.in_ok-drain_stages.ensures.done b m x in
    let stages = c.stage_count-stages.ensures.value ∙ (ap (λ (p : PlanView). length p.stages) c.plan.ensures ∙ stages_at b c.args.core.now [] a) in
    let w = listed_on b c.drain_stages.new.core (done_before b (c.stage_count-stages.result + 1) 0) (before_turn b node.Egress) (ap (λ n. done_before b (n + 1) 0) stages) y in
    listed_on b c.drain_into.new.core (before_turn b node.Egress ++ turn_of b node.Egress) (drain_events (flow_at b) b.state) (last_turn b m) (done b m tt w))) c.drain_into.ensures.done

pub returns-clause-within : goal.returns-clause-within
returns-clause-within c = on_err_map c.drain_into.result (λ within b m a.
    (let z = makes_next b m in
    let x = listed_on b c.repeat.new.core _ (done_before b 1 0) z.listed (c.in_ok-repeat.ensures.done b [] z.count m a z.block) in
    let y = c.in_ok-drain_stages.ensures.done b m x in
    let stages = c.stage_count-stages.ensures.value ∙ (ap (λ (p : PlanView). length p.stages) c.plan.ensures ∙ stages_at b c.args.core.now [] a) in
    within b m tt (listed_on b c.drain_stages.new.core (done_before b (c.stage_count-stages.result + 1) 0) (before_turn b node.Egress) (ap (λ n. done_before b (n + 1) 0) stages) y))) c.drain_into.ensures.within
