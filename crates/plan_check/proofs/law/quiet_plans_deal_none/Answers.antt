use Rattle.plan_check.proofs.Quiet.{deal_none}
use Rattle.plan_check.proofs.law.quiet_plans_deal_none.Goals as goal

pub returns : goal.returns
returns c = deal_none
