use Rattle.std.proofs.Common.{◌∙◌, ◌++◌, ◌∷◌, [], ap, inl, inr}
use Rattle.core_drain.proofs.Along.{keeps_none, on_err}
use Rattle.core_drain.proofs.Trying.{keeps_by, next_applied, none_refused, none_undrained}
use Rattle.core_drain.proofs.next.apply_next.Goals as goal

pub returns-then-not-drains-clause-tried : goal.returns-then-not-drains-clause-tried
returns-then-not-drains-clause-tried g c = none_undrained c.args.core.now c.args.events.now.events c.args.event c.drains.result c.drains.ensures c.if-not-drains.true

pub returns-then-not-drains-clause-keeps : goal.returns-then-not-drains-clause-keeps
returns-then-not-drains-clause-keeps g c = keeps_none c.args.core.now c.known.ensures

pub returns-in_err-reserve-clause-keeps : goal.returns-in_err-reserve-clause-keeps
returns-in_err-reserve-clause-keeps g c = keeps_none c.args.core.now c.known.ensures

pub apply-requires-clause-may : goal.apply-requires-clause-may
apply-requires-clause-may g c = inr (inl c.requires.free)

pub returns-in-Ok-clause-tried : goal.returns-in-Ok-clause-tried
returns-in-Ok-clause-tried g c = next_applied c.args.core.now c.apply.new.self c.args.events.now.events c.push_reserved.new.self.events c.args.event c.drains.result c.requires.free c.drains.ensures c.if-not-drains.false c.in-Ok.ensures.applied (c.push_reserved.ensures.events ∙ ap (λ es. es ++ c.args.event ∷ []) c.reserve.ensures.events)

pub returns-in-Ok-clause-keeps : goal.returns-in-Ok-clause-keeps
returns-in-Ok-clause-keeps g c = keeps_by c.args.core.now c.apply.new.self c.apply.ensures.plan c.apply.ensures.inputs c.apply.ensures.whole c.apply.ensures.gone c.apply.ensures.core

pub returns-in_err-refusal-in-Err-clause-unchanged : goal.returns-in_err-refusal-in-Err-clause-unchanged
returns-in_err-refusal-in-Err-clause-unchanged g c = on_err c.from_residual-in_err-refusal-in-Err.result (c.in-Err.ensures.unchanged, c.reserve.ensures.events)

pub returns-in_err-refusal-in-Err-clause-keeps : goal.returns-in_err-refusal-in-Err-clause-keeps
returns-in_err-refusal-in-Err-clause-keeps g c = keeps_by c.args.core.now c.apply.new.self c.apply.ensures.plan c.apply.ensures.inputs c.apply.ensures.whole c.apply.ensures.gone c.apply.ensures.core

pub returns-in_ok-refusal-in-Err-clause-tried : goal.returns-in_ok-refusal-in-Err-clause-tried
returns-in_ok-refusal-in-Err-clause-tried g c = none_refused c.args.core.now c.apply.new.self c.args.events.now.events c.reserve.new.self.events c.args.event c.in-Err.error c.in-Err.ensures.unchanged c.reserve.ensures.events
    c.in_ok-refusal-in-Err.ensures c.in-Err.ensures.refused

pub returns-in_ok-refusal-in-Err-clause-keeps : goal.returns-in_ok-refusal-in-Err-clause-keeps
returns-in_ok-refusal-in-Err-clause-keeps g c = keeps_by c.args.core.now c.apply.new.self c.apply.ensures.plan c.apply.ensures.inputs c.apply.ensures.whole c.apply.ensures.gone c.apply.ensures.core
