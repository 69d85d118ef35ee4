use Rattle.std.proofs.Common.{◌++◌}
use Rattle.core_drain.specs.Progress.{before_turn, pulls_of, turn_of}
use Rattle.core_drain.proofs.Along.{on_err_map, on_ok_map}
use Rattle.core_drain.proofs.Turns.{listed_on, work_next}
use Rattle.core_drain.proofs.turn.drain_into.Goals as goal

pub returns-clause-done : goal.returns-clause-done
returns-clause-done g c = on_ok_map c.repeat.result (λ done b m h a.
    (let x = c.in_ok-pull_all.ensures.done b m h a in
    let z = work_next b m c.args.to h in
    listed_on b c.repeat.new.core c.repeat.new.events.events _ (before_turn b c.args.to ++ turn_of b c.args.to) z.listed (done b (before_turn b c.args.to ++ pulls_of b c.args.to) z.count m x z.block))) c.repeat.ensures.done

pub returns-clause-within : goal.returns-clause-within
returns-clause-within g c = on_err_map c.repeat.result (λ within b m h a.
    (let x = c.in_ok-pull_all.ensures.done b m h a in
    let z = work_next b m c.args.to h in
    within b (before_turn b c.args.to ++ pulls_of b c.args.to) z.count m x z.block)) c.repeat.ensures.within
