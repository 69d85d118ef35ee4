use Rattle.std.proofs.Common.{◌≡◌, ◌∙◌, Some, ap, length, slice_get, sym}
use Rattle.ingress_egress.proofs.IngressSteps.{found_at}
use Rattle.trio_core.specs.Sent.{is_link}
use Rattle.trio_core.proofs.Lists.{get_at}
use Rattle.trio_core.proofs.Placing.{none_next}
use Rattle.trio_core.proofs.sent.link_to.Goals as goal

pub returns-then-is_to-clause-found : goal.returns-then-is_to-clause-found
returns-then-is_to-clause-found c =
    let xs = c.args.links.now in
    let i = c.loop-link.link in
    let here : slice_get xs i ≡ Some c.index-links-link.result = get_at xs i c.index-links-link.result c.loop-link-test.true c.index-links-link.is in
    sym (found_at (length xs) i (λ k. is_link c.args.to (slice_get xs k)) c.loop-link.invariant c.loop-link-test.true (ap (is_link c.args.to) here ∙ sym c.is_to.ensures ∙ c.if-is_to.true))

pub loop-link-preserved : goal.loop-link-preserved
loop-link-preserved c =
    let xs = c.args.links.now in
    let i = c.loop-link.link in
    let here : slice_get xs i ≡ Some c.index-links-link.result = get_at xs i c.index-links-link.result c.loop-link-test.true c.index-links-link.is in
    none_next (λ k. is_link c.args.to (slice_get xs k)) i c.loop-link.invariant (ap (is_link c.args.to) here ∙ sym c.is_to.ensures ∙ c.if-is_to.false)
