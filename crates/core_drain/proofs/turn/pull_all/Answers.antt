use Rattle.std.proofs.Common.{◌++◌, ◌∙◌}
use Rattle.core_drain.specs.Progress.{before_turn, pulls_of}
use Rattle.core_drain.proofs.Along.{on_err_map, on_ok_map}
use Rattle.core_drain.proofs.Turns.{feed_next, listed_on, turn_stage}
use Rattle.core_drain.proofs.turn.pull_all.Goals as goal

pub returns-then-stage-eq1-clause-done : goal.returns-then-stage-eq1-clause-done
returns-then-stage-eq1-clause-done g c = on_ok_map c.repeat.result (λ done b m h a.
    (let at = turn_stage b m c.args.to h c.args.core.now.plan a.plan c.args.stage c.requires.stage in
    let z = feed_next b m c.args.to h (at ∙ c.if-stage-eq1.true) in
    listed_on b c.repeat.new.core c.repeat.new.events.events _ (before_turn b c.args.to ++ pulls_of b c.args.to) z.listed (done b (before_turn b c.args.to) z.count m a z.block))) c.repeat.ensures.done

pub returns-then-stage-eq1-clause-within : goal.returns-then-stage-eq1-clause-within
returns-then-stage-eq1-clause-within g c = on_err_map c.repeat.result (λ within b m h a.
    (let at = turn_stage b m c.args.to h c.args.core.now.plan a.plan c.args.stage c.requires.stage in
    let z = feed_next b m c.args.to h (at ∙ c.if-stage-eq1.true) in
    within b (before_turn b c.args.to) z.count m a z.block)) c.repeat.ensures.within
