use Rattle.std.proofs.Common.{◌∙◌, ◌<◌, length, drop, ◌+◌, ap, arith}
use Rattle.flux_core.specs.CoreView.{CoreView, inputs_of}
use Rattle.flux_core.proofs.Following.{along_at, along_next, along_none, stopped}
use Rattle.flux_core.proofs.Placed.{emitted_front}
use Rattle.flux_core.proofs.Promised.{holds_what_is_owed, merges_in_order}
use Rattle.flux_core.proofs.apply.Core.follow.Goals as goal

pub loop-lined-init : goal.loop-lined-init
loop-lined-init c = record { along = along_none c.args.self.now c.args.events.now; core = c.known.ensures }

pub returns-in-Err-clause-stopped : goal.returns-in-Err-clause-stopped
returns-in-Err-clause-stopped c =
    let i = c.loop-lined.lined-index in
    let within : i < length c.args.events.now = omega arith in
    stopped c.args.self.now c.loop-lined.self _ (drop (i + 1) c.args.events.now) c.args.events.now c.requires.named
    (along_at c.args.self.now c.loop-lined.self c.args.events.now i _ within c.loop-lined.invariant.along)
    c.apply.new.self c.in-Err.error c.in-Err.ensures.unchanged c.in-Err.ensures.refused

pub loop-lined-preserved : goal.loop-lined-preserved
loop-lined-preserved c =
    let i = c.loop-lined.lined-index in
    let within : i < length c.args.events.now = omega arith in
    record {
      along = along_next c.args.self.now c.loop-lined.self _ (drop (i + 1) c.args.events.now) c.args.events.now c.requires.named
          (along_at c.args.self.now c.loop-lined.self c.args.events.now i _ within c.loop-lined.invariant.along)
          c.apply.new.self c.known.ensures c.in_default.ensures.applied;
      core = c.apply.ensures.core;
    }

pub returns-clause-emitted : goal.returns-clause-emitted
returns-clause-emitted c = emitted_front c.loop-lined.self c.loop-lined.invariant.core

pub returns-clause-merged : goal.returns-clause-merged
returns-clause-merged c = merges_in_order c.loop-lined.self c.loop-lined.invariant.core

pub returns-clause-owed : goal.returns-clause-owed
returns-clause-owed c = holds_what_is_owed c.loop-lined.self c.loop-lined.invariant.core

pub returns-in-Err-clause-plan : goal.returns-in-Err-clause-plan
returns-in-Err-clause-plan c = ap (λ (k : CoreView). k.plan) c.in-Err.ensures.unchanged ∙ c.loop-lined.invariant.along.followed.plan

pub returns-in-Err-clause-inputs : goal.returns-in-Err-clause-inputs
returns-in-Err-clause-inputs c = ap inputs_of c.in-Err.ensures.unchanged ∙ c.loop-lined.invariant.along.followed.inputs

pub returns-in-Err-clause-whole : goal.returns-in-Err-clause-whole
returns-in-Err-clause-whole c = ap (λ (k : CoreView). k.whole) c.in-Err.ensures.unchanged ∙ c.loop-lined.invariant.along.followed.whole

pub returns-clause-plan : goal.returns-clause-plan
returns-clause-plan c = c.loop-lined.invariant.along.followed.plan

pub returns-clause-inputs : goal.returns-clause-inputs
returns-clause-inputs c = c.loop-lined.invariant.along.followed.inputs

pub returns-clause-whole : goal.returns-clause-whole
returns-clause-whole c = c.loop-lined.invariant.along.followed.whole
