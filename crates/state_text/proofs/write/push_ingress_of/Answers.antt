use Rattle.std.proofs.Common.{◌∙◌, ◌++◌, ap, string_bytes}
use Rattle.state_text.proofs.CoreLines.{ingress_lines}
use Rattle.state_text.proofs.write.push_ingress_of.Goals as goal

pub returns : goal.returns
returns c s stands = c.in_ok-push_ingress.ensures ∙ ap (λ t. string_bytes c.args.text.now ++ t) (ingress_lines c.args.core.now c.ingress.result.now c.ingress.ensures s stands)
