use Rattle.std.proofs.Common.{◌++◌, ◌+◌}
use Rattle.trio_machine.specs.declared.node.TrioNode.TheVariants as node
use Rattle.trio_core.specs.CoreView.{inputs_of}
use Rattle.trio_drain.specs.Order.{before_turn, done_before, turn_of}
use Rattle.trio_drain.proofs.Along.{listed_on, on_err_map, on_ok_map}
use Rattle.trio_drain.proofs.Loops.{turn_of_server}
use Rattle.trio_drain.proofs.Turns.{group_listed, group_there}
use Rattle.trio_drain.proofs.turn.drain_group.Goals as goal

pub drain_into-requires-clause-there : goal.drain_into-requires-clause-there
drain_into-requires-clause-there c = (group_there c.args.core.now.plan (inputs_of c.args.core.now) c.args.stage c.args.part c.requires.there, c.server-copy.ensures.few)

pub drain_into-requires-clause-first : goal.drain_into-requires-clause-first
drain_into-requires-clause-first c = (group_there c.args.core.now.plan (inputs_of c.args.core.now) c.args.stage c.args.part c.requires.there).first

pub returns-clause-done : goal.returns-clause-done
returns-clause-done c = on_ok_map c.drain_into.result (λ done b m a.
    (let h = turn_of_server b m c.args.core.now (done_before b c.args.stage c.args.part) a c.args.stage c.args.part c.server-copy.result c.requires.there c.server-copy.ensures.first in
    let to = node.Replica c.args.stage c.args.part c.server-copy.result in
    listed_on b c.drain_into.new.core (before_turn b to ++ turn_of b to) (done_before b c.args.stage (c.args.part + 1)) (group_listed b c.args.stage c.args.part c.server-copy.result h.1) (done b m h a))) c.drain_into.ensures.done

pub returns-clause-within : goal.returns-clause-within
returns-clause-within c = on_err_map c.drain_into.result (λ within b m a.
    within b m (turn_of_server b m c.args.core.now (done_before b c.args.stage c.args.part) a c.args.stage c.args.part c.server-copy.result c.requires.there c.server-copy.ensures.first) a) c.drain_into.ensures.within
