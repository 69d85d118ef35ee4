use Rattle.std.proofs.Common.{◌≡◌, ◌∙◌, Result, Ok, Err, OnOk, OnErr, ap, subst, sym}
use Rattle.std.proofs.lemmas.Result.{err_from_is_err_and}
use Rattle.flux_core.specs.declared.error.ApplyError.{ApplyError}
use Rattle.flux_core.specs.CoreView.{CoreView, flow_in, inputs_of}
use Rattle.flux_core.specs.Stands.{IsCore}
use Rattle.flux_core.specs.Steps.{IsTaskOf}
use Rattle.flux_core.proofs.Known.{refused_early}
use Rattle.flux_core.proofs.Placed.{emitted_front}
use Rattle.flux_core.proofs.Promised.{holds_what_is_owed, merges_in_order}
use Rattle.flux_core.proofs.nodes.Core.apply.Goals as goal

pub act-requires-clause-asked : goal.act-requires-clause-asked
act-requires-clause-asked g c = subst (λ k. IsTaskOf k c.args.event c.in_ok-task.task) (sym c.task_of.ensures.unchanged) c.in_ok-task.ensures.asked

pub returns-in_err-task-clause-refused : goal.returns-in_err-task-clause-refused
returns-in_err-task-clause-refused g c =
    let p = err_from_is_err_and c.from_residual.result c.from_residual.ensures.1 in
    rw (p.1, p.2) (λ s stands. refused_early (flow_in c.args.self.now) s c.args.event c.in_err-task.field-0.0 (c.in_err-task.ensures.refused s stands))

stays : {old new : CoreView} → new ≡ old → IsCore old → IsCore new
stays same = subst IsCore (sym same)

pub returns-in_err-task-clause-core : goal.returns-in_err-task-clause-core
returns-in_err-task-clause-core g c = stays c.task_of.ensures.unchanged c.known.ensures

pub returns-in_err-task-clause-emitted : goal.returns-in_err-task-clause-emitted
returns-in_err-task-clause-emitted g c = emitted_front c.task_of.new.self (stays c.task_of.ensures.unchanged c.known.ensures)

pub returns-in_err-task-clause-merged : goal.returns-in_err-task-clause-merged
returns-in_err-task-clause-merged g c = merges_in_order c.task_of.new.self (stays c.task_of.ensures.unchanged c.known.ensures)

pub returns-in_err-task-clause-owed : goal.returns-in_err-task-clause-owed
returns-in_err-task-clause-owed g c = holds_what_is_owed c.task_of.new.self (stays c.task_of.ensures.unchanged c.known.ensures)

pub returns-clause-emitted : goal.returns-clause-emitted
returns-clause-emitted g c = emitted_front c.act.new.self c.act.ensures.core

pub returns-clause-merged : goal.returns-clause-merged
returns-clause-merged g c = merges_in_order c.act.new.self c.act.ensures.core

pub returns-clause-owed : goal.returns-clause-owed
returns-clause-owed g c = holds_what_is_owed c.act.new.self c.act.ensures.core

pub returns-in_err-task-clause-plan : goal.returns-in_err-task-clause-plan
returns-in_err-task-clause-plan g c = ap (λ (k : CoreView). k.plan) c.task_of.ensures.unchanged

pub returns-in_err-task-clause-inputs : goal.returns-in_err-task-clause-inputs
returns-in_err-task-clause-inputs g c = ap inputs_of c.task_of.ensures.unchanged

pub returns-in_err-task-clause-whole : goal.returns-in_err-task-clause-whole
returns-in_err-task-clause-whole g c = ap (λ (k : CoreView). k.whole) c.task_of.ensures.unchanged

-- whatever the answer, what neither changes stays
stays_so : {X : Type 0} (f : CoreView → X) (old mid new : CoreView) (r : Result (Unit {0}) ApplyError) (P : Type 0) → (P → f new ≡ f mid) → OnOk r P → OnErr r (new ≡ mid) → mid ≡ old → f new ≡ f old
stays_so f old mid new (Ok u) P h did denied same = h did ∙ ap f same
stays_so f old mid new (Err x) P h did denied same = ap f denied ∙ ap f same

pub returns-clause-plan : goal.returns-clause-plan
returns-clause-plan g c = stays_so (λ k. k.plan) c.args.self.now c.task_of.new.self c.act.new.self c.act.result _ (λ a. a.plan) c.act.ensures.applied c.act.ensures.unchanged c.task_of.ensures.unchanged

pub returns-clause-inputs : goal.returns-clause-inputs
returns-clause-inputs g c = stays_so inputs_of c.args.self.now c.task_of.new.self c.act.new.self c.act.result _ (λ a. a.inputs) c.act.ensures.applied c.act.ensures.unchanged c.task_of.ensures.unchanged

pub returns-clause-whole : goal.returns-clause-whole
returns-clause-whole g c = stays_so (λ k. k.whole) c.args.self.now c.task_of.new.self c.act.new.self c.act.result _ (λ a. a.whole) c.act.ensures.applied c.act.ensures.unchanged c.task_of.ensures.unchanged
