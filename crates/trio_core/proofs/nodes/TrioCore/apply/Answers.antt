use Rattle.std.proofs.Common.{◌≡◌, Result, Ok, Err, OnOk, OnErr, ap}
use Rattle.std.proofs.lemmas.Result.{err_from_is_err_and}
use Rattle.trio_core.specs.CoreView.{CoreView, inputs_of}
use Rattle.trio_core.specs.declared.error.TrioError.{TrioError}
use Rattle.trio_core.proofs.Known.{refused_early}
use Rattle.trio_core.proofs.Promised.{emits_a_front, holds_what_is_owed}
use Rattle.trio_core.proofs.nodes.TrioCore.apply.Goals as goal

pub returns-in_err-task-clause-refused : goal.returns-in_err-task-clause-refused
returns-in_err-task-clause-refused c =
    let p = err_from_is_err_and c.from_residual.result c.from_residual.ensures.1 in
    rw (p.1, p.2) (λ s stands sound. refused_early c.args.self.now s c.args.event c.in_err-task.field-0.0 (c.in_err-task.ensures.refused s stands))

pub returns-in_err-task-clause-emitted : goal.returns-in_err-task-clause-emitted
returns-in_err-task-clause-emitted c = emits_a_front c.args.self.now c.known.ensures

pub returns-in_err-task-clause-owed : goal.returns-in_err-task-clause-owed
returns-in_err-task-clause-owed c = holds_what_is_owed c.args.self.now c.known.ensures

pub returns-clause-emitted : goal.returns-clause-emitted
returns-clause-emitted c = emits_a_front c.act.new.self c.act.ensures.core

pub returns-clause-owed : goal.returns-clause-owed
returns-clause-owed c = holds_what_is_owed c.act.new.self c.act.ensures.core

-- whatever the answer, what neither changes stays
stays_so : {X : Type 0} (f : CoreView → X) (old new : CoreView) (r : Result (Unit {0}) TrioError) (P : Type 0) → (P → f new ≡ f old) → OnOk r P → OnErr r (new ≡ old) → f new ≡ f old
stays_so f old new (Ok u) P h did denied = h did
stays_so f old new (Err x) P h did denied = ap f denied

pub returns-clause-plan : goal.returns-clause-plan
returns-clause-plan c = stays_so (λ k. k.plan) c.args.self.now c.act.new.self c.act.result _ (λ a. a.plan) c.act.ensures.applied c.act.ensures.unchanged

pub returns-clause-inputs : goal.returns-clause-inputs
returns-clause-inputs c = stays_so inputs_of c.args.self.now c.act.new.self c.act.result _ (λ a. a.inputs) c.act.ensures.applied c.act.ensures.unchanged
