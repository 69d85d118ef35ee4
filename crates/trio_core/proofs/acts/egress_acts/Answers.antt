use Rattle.std.proofs.Common.{[], OnOk, subst, sym}
use Rattle.trio_core.specs.Acts.{ActsSo}
use Rattle.trio_core.specs.declared.member.Member.TheVariants as member
use Rattle.trio_core.proofs.Acting.{appended_none}
use Rattle.trio_core.proofs.acts.egress_acts.Goals as goal

pub returns-in-Pull-clause-acts : goal.returns-in-Pull-clause-acts
returns-in-Pull-clause-acts c =
    subst (λ s. OnOk c.egress_pulls.result (ActsSo c.args.task.now (member.Egress c.args.node.now) (member.Egress c.egress_pulls.new.node) s)) (sym (appended_none c.args.out.now.packets))
    (subst (λ t. OnOk c.egress_pulls.result (ActsSo t (member.Egress c.args.node.now) (member.Egress c.egress_pulls.new.node) [])) (sym c.in-Pull.is) c.egress_pulls.ensures.acts)
