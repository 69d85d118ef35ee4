use Rattle.std.proofs.Common.{◌∙◌, ◌++◌, ap, string_bytes}
use Rattle.state_text.proofs.CoreLines.{egress_lines}
use Rattle.state_text.proofs.write.push_egress_of.Goals as goal

pub returns : goal.returns
returns c s stands =
    c.in_ok-push_egress.ensures
    ∙ ap (λ t. string_bytes c.args.text.now ++ t) (egress_lines c.args.core.now c.known.ensures c.egress-egress.result.now c.done-done.result c.egress-egress.ensures c.done-done.ensures.value c.done-done.ensures.whole s stands)
