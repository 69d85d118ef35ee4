use Rattle.std.proofs.Common.{◌<◌, length, drop, ◌+◌, arith}
use Rattle.trio_command.proofs.Following.{left_at, left_named, left_next, left_stops}
use Rattle.trio_command.proofs.follow.follow.Goals as goal

pub apply-requires : goal.apply-requires
apply-requires c =
    let i = c.loop-lined.lined-index in
    let within : i < length c.args.events.now = omega arith in
    record {
      named = left_named c.args.core.now c.loop-lined.core _ (drop (i + 1) c.args.events.now) c.args.events.now
          (left_at c.args.core.now c.loop-lined.core c.args.events.now i _ within c.loop-lined.invariant.left);
    }

pub returns-in-Err-clause-stopped : goal.returns-in-Err-clause-stopped
returns-in-Err-clause-stopped c =
    let i = c.loop-lined.lined-index in
    let within : i < length c.args.events.now = omega arith in
    left_stops c.args.core.now c.loop-lined.core _ (drop (i + 1) c.args.events.now) c.args.events.now
    (left_at c.args.core.now c.loop-lined.core c.args.events.now i _ within c.loop-lined.invariant.left) c.in-Err.error c.in-Err.ensures.refused

pub loop-lined-preserved : goal.loop-lined-preserved
loop-lined-preserved c =
    let i = c.loop-lined.lined-index in
    let within : i < length c.args.events.now = omega arith in
    record {
      left = left_next c.args.core.now c.loop-lined.core _ (drop (i + 1) c.args.events.now) c.args.events.now
          (left_at c.args.core.now c.loop-lined.core c.args.events.now i _ within c.loop-lined.invariant.left)
          c.apply.new.self c.known.ensures.plan c.in_default.ensures.applied;
      core = c.apply.ensures.core;
    }
