use Rattle.std.proofs.Common.{◌∙◌, ◌++◌, ap, sym}
use Rattle.ingress_egress.proofs.egress.Egress.emitted.Goals as goal

pub returns : goal.returns
returns c = ap (λ gone. gone ++ c.held.result.now) (sym c.requires) ∙ c.held.ensures
