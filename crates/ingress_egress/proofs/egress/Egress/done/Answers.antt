use Rattle.std.proofs.Common.{◌≡◌, ◌↔◌, IsTrue, ap, subst, sym}
use Rattle.pair_machine.specs.Boundary.{egress_partition}
use Rattle.pair_machine.specs.Counts.{flow_of}
use Rattle.pair_machine.specs.Machine.{egress_in}
use Rattle.ingress_egress.specs.EgressView.{EgressView}
use Rattle.ingress_egress.proofs.EgressPlan.{done_output, done_whole}
use Rattle.ingress_egress.proofs.egress.Egress.done.Goals as goal

pub returns-clause-whole : goal.returns-clause-whole
returns-clause-whole c = λ plan rows n is s.
    subst (λ b. IsTrue b ↔ ((egress_in n).count ≡ (flow_of plan rows).total (egress_partition (flow_of plan rows)))) (sym (ap (λ (v : EgressView). v.done) c.self.view_is))
    (done_whole plan rows is c.args.self.now n s)

pub returns-clause-output : goal.returns-clause-output
returns-clause-output c = λ plan rows n is s t. done_output plan rows is c.args.self.now n s (subst IsTrue (ap (λ (v : EgressView). v.done) c.self.view_is) t)
