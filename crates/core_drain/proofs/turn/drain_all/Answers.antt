use Rattle.std.proofs.Common.{◌+◌, ◌++◌, ◌∙◌, [], ap}
use Rattle.tuple_edge.specs.declared.node.NodeId.TheVariants as node
use Rattle.pair_machine.specs.Drain.{drain_events}
use Rattle.core_drain.specs.Progress.{before_turn, done_before, flow_at, turn_of}
use Rattle.core_drain.proofs.Along.{on_err, on_err_map, on_ok_map}
use Rattle.core_drain.proofs.Turns.{listed_on, makes_next, stages_at}
use Rattle.core_drain.proofs.Blocks.{last_turn}
use Rattle.core_drain.proofs.turn.drain_all.Goals as goal

pub returns-in_err-repeat-clause-within : goal.returns-in_err-repeat-clause-within
returns-in_err-repeat-clause-within g c = on_err c.from_residual.result (λ b m a. (let z = makes_next b m in c.in_err-repeat.ensures.within b [] z.count m a z.block))

pub returns-in_err-drain_stages-clause-within : goal.returns-in_err-drain_stages-clause-within
returns-in_err-drain_stages-clause-within g c = on_err c.from_residual-in_err-drain_stages.result (λ b m a.
    (let z = makes_next b m in
    let x = listed_on b c.repeat.new.core c.repeat.new.events.events _ (done_before b 1 0) z.listed (c.in_ok-repeat.ensures.done b [] z.count m a z.block) in
    c.in_err-drain_stages.ensures.within b m x))

pub returns-clause-done : goal.returns-clause-done
returns-clause-done g c = on_ok_map c.drain_into.result (λ done b m a.
    (let z = makes_next b m in
    let x = listed_on b c.repeat.new.core c.repeat.new.events.events _ (done_before b 1 0) z.listed (c.in_ok-repeat.ensures.done b [] z.count m a z.block) in
    let y = c.in_ok-drain_stages.ensures.done b m x in
    let stages = c.stage_count-stages.ensures.value ∙ stages_at b c.plan.result.now (c.plan.ensures ∙ a.plan) in
    let w = listed_on b c.drain_stages.new.core c.drain_stages.new.events.events (done_before b (c.stage_count-stages.result + 1) 0) (before_turn b node.Egress) (ap (λ n. done_before b (n + 1) 0) stages) y in
    listed_on b c.drain_into.new.core c.drain_into.new.events.events (before_turn b node.Egress ++ turn_of b node.Egress) (drain_events (flow_at b) b.state) (last_turn b m) (done b m tt w))) c.drain_into.ensures.done

pub returns-clause-within : goal.returns-clause-within
returns-clause-within g c = on_err_map c.drain_into.result (λ within b m a.
    (let z = makes_next b m in
    let x = listed_on b c.repeat.new.core c.repeat.new.events.events _ (done_before b 1 0) z.listed (c.in_ok-repeat.ensures.done b [] z.count m a z.block) in
    let y = c.in_ok-drain_stages.ensures.done b m x in
    let stages = c.stage_count-stages.ensures.value ∙ stages_at b c.plan.result.now (c.plan.ensures ∙ a.plan) in
    within b m tt (listed_on b c.drain_stages.new.core c.drain_stages.new.events.events (done_before b (c.stage_count-stages.result + 1) 0) (before_turn b node.Egress) (ap (λ n. done_before b (n + 1) 0) stages) y))) c.drain_into.ensures.within
