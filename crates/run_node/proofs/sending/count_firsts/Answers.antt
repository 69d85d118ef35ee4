use Rattle.std.proofs.Common.{◌≡◌, ◌∙◌, get_or, ap, subst, arith}
use Rattle.run_node.specs.Ends.{OutEndView}
use Rattle.run_node.specs.FirstLinks.{IsFirstTo}
use Rattle.run_node.proofs.FirstLinks.{first_too}
use Rattle.run_node.proofs.sending.count_firsts.Goals as goal

pub loop-place-preserved : goal.loop-place-preserved
loop-place-preserved g c =
    let outs = c.args.outs.now in
    let place = c.loop-place.place in
    let end = c.index-outs-place.result in
    let here : c.in-Some.first ≡ place = omega (arith, c.if-first-place.false) in
    let to = c.to.ensures ∙ ap (λ (e : OutEndView). e.link.to) c.index-outs-place.is in
    let first = subst (λ i. IsFirstTo outs (get_or outs place end).link.to i) here (subst (λ k. IsFirstTo outs k c.in-Some.first) to c.in-Some.ensures) in
    first_too outs place end c.loop-place.invariant first
