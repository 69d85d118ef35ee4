use Rattle.std.proofs.Common.{subst}
use Rattle.std.specs.Prelude.{Result}
use Rattle.plan_reader.specs.PlanView.{PlanView}
use Rattle.plan_reader.specs.Reading.{Gives}
use Rattle.plan_reader.specs.declared.error.PlanError.{PlanError}
use Rattle.plan_reader.proofs.Statements.{drafted_plan_of}
use Rattle.plan_reader.proofs.read.read_plan.Goals as goal

pub returns-clause-reads : goal.returns-clause-reads
returns-clause-reads c =
    subst (λ (read : Result PlanView PlanError). Gives (λ p. p) c.plan_of_lines.result read)
    (drafted_plan_of c.args.bytes.now c.new.result c.if-length-gt-MAX_PLAN_BYTES.false c.new.ensures) c.plan_of_lines.ensures.reads
