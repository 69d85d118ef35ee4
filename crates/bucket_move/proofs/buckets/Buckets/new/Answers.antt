use Rattle.std.proofs.Common.{refl}
use Rattle.bucket_move.proofs.Opening.{first_stage, opened, opened_right}
use Rattle.bucket_move.proofs.buckets.Buckets.new.Goals as goal

pub invariant_of-result : goal.invariant_of-result
invariant_of-result c =
    let first = first_stage c.args.plan.now c.stages.result.now _ c.stages.ensures.value c.stages.ensures.limits c.requires in
    opened_right _ first.0 first.1 c.in_ok-table.ensures c.in_ok-parts.ensures refl

pub returns-clause-opening : goal.returns-clause-opening
returns-clause-opening c =
    let first = first_stage c.args.plan.now c.stages.result.now _ c.stages.ensures.value c.stages.ensures.limits c.requires in
    opened _ first.0 first.1 c.in_ok-table.ensures c.in_ok-parts.ensures refl c.new.ensures.items refl
