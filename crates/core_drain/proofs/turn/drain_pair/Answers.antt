use Rattle.std.proofs.Common.{◌++◌, ◌+◌}
use Rattle.tuple_edge.specs.declared.node.NodeId.TheVariants as node
use Rattle.pair_machine.specs.Drain.{partition}
use Rattle.core_drain.specs.Progress.{before_turn, done_before, turn_of}
use Rattle.core_drain.proofs.Along.{on_err_map, on_ok_map}
use Rattle.core_drain.proofs.Turns.{drainer_at, listed_on, pair_at, pair_listed}
use Rattle.core_drain.proofs.turn.drain_pair.Goals as goal

pub returns-clause-done : goal.returns-clause-done
returns-clause-done g c = on_ok_map c.drain_into.result (λ done b m a.
    (let p = partition c.args.stage c.args.part in
    let drains = drainer_at b m c.args.core.now c.args.events.now.events (done_before b c.args.stage c.args.part) a p c.drainer-which.result c.drainer-which.ensures in
    let to = node.Replica c.args.stage c.args.part c.drainer-which.result in
    listed_on b c.drain_into.new.core c.drain_into.new.events.events (before_turn b to ++ turn_of b to) (done_before b c.args.stage (c.args.part + 1)) (pair_listed b c.args.stage c.args.part c.drainer-which.result drains)
    (done b m (pair_at b c.args.core.now.plan a.plan c.args.stage c.args.part c.requires.there, drains) a))) c.drain_into.ensures.done

pub returns-clause-within : goal.returns-clause-within
returns-clause-within g c = on_err_map c.drain_into.result (λ within b m a.
    (let p = partition c.args.stage c.args.part in
    let drains = drainer_at b m c.args.core.now c.args.events.now.events (done_before b c.args.stage c.args.part) a p c.drainer-which.result c.drainer-which.ensures in
    within b m (pair_at b c.args.core.now.plan a.plan c.args.stage c.args.part c.requires.there, drains) a)) c.drain_into.ensures.within
