use Rattle.std.proofs.Common.{◌≡◌, ◌↔◌, IsTrue, ap, subst, sym}
use Rattle.pair_machine.specs.Boundary.{egress_partition}
use Rattle.pair_machine.specs.Counts.{flow_of}
use Rattle.pair_machine.specs.Numbers as pairs
use Rattle.trio_machine.specs.Machine.{egress_in}
use Rattle.ingress_egress.specs.EgressView.{EgressView}
use Rattle.ingress_egress.proofs.EgressPlan.{done_output, done_whole}
use Rattle.trio_nodes.proofs.egress.TrioEgress.done.Goals as goal

pub returns-clause-whole : goal.returns-clause-whole
returns-clause-whole c = λ plan inputs x is s.
    subst (λ b. IsTrue b ↔ ((egress_in x).count ≡ (flow_of plan inputs).total (egress_partition (flow_of plan inputs)))) (sym (ap (λ (v : EgressView). v.done) c.self.view_is))
    (done_whole plan inputs is c.args.self.now (pairs.EgressNode (egress_in x)) s)

pub returns-clause-output : goal.returns-clause-output
returns-clause-output c = λ plan inputs x is s t. done_output plan inputs is c.args.self.now (pairs.EgressNode (egress_in x)) s (subst IsTrue (ap (λ (v : EgressView). v.done) c.self.view_is) t)
