use Rattle.std.proofs.Common.{◌<◌, ◌∙◌, length, ap, sym, arith}
use Rattle.pair_machine.specs.Numbers.{is_node}
use Rattle.run_node.specs.Ends.{OutEndView}
use Rattle.run_node.proofs.FirstLinks.{first_among}
use Rattle.run_node.proofs.sending.place_near.Goals as goal

pub returns-then-leads_to : goal.returns-then-leads_to
returns-then-leads_to g c =
    let guess = c.guessed-guess.result in
    let among : guess < c.args.firsts = omega (arith, c.if-guess-min.true, c.min.ensures) in
    let within : guess < length c.args.outs.now = omega (arith, c.if-guess-min.true, c.min.ensures) in
    first_among c.args.to c.args.outs.now c.args.firsts guess c.index-outs-guess.result c.requires among within
    (ap (λ (e : OutEndView). is_node e.link.to c.args.to) (sym c.index-outs-guess.is) ∙ (sym c.leads_to.ensures ∙ c.if-leads_to.true))

pub returns-then-leads_to-2 : goal.returns-then-leads_to-2
returns-then-leads_to-2 g c =
    let place = c.loop-place.place in
    let among : place < c.args.firsts = omega (arith, c.loop-place-test.true, c.min-place-end.ensures) in
    let within : place < length c.args.outs.now = omega (arith, c.loop-place-test.true, c.min-place-end.ensures) in
    first_among c.args.to c.args.outs.now c.args.firsts place c.index-outs-place.result c.requires among within
    (ap (λ (e : OutEndView). is_node e.link.to c.args.to) (sym c.index-outs-place.is) ∙ (sym c.leads_to-in-loop-place.ensures ∙ c.if-leads_to-2.true))
