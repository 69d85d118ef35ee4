use Rattle.std.proofs.Common.{◌≡◌, ◌∙◌, false, length, ap, sym, arith}
use Rattle.pair_machine.specs.Numbers.{is_node}
use Rattle.run_node.specs.Ends.{OutEndView}
use Rattle.run_node.proofs.Places.{each_take_one, each_whole}
use Rattle.run_node.proofs.SentPackets.{first_to, none_to}
use Rattle.run_node.proofs.sending.place_to.Goals as goal

pub returns-then-leads_to : goal.returns-then-leads_to
returns-then-leads_to g c =
    first_to c.args.to c.args.outs.now c.loop-place.place c.index-outs-place.result (omega (arith, c.loop-place-test.true)) c.loop-place.invariant (ap (λ (e : OutEndView). is_node e.link.to c.args.to) (sym c.index-outs-place.is) ∙ (sym c.leads_to.ensures ∙ c.if-leads_to.true))

pub loop-place-preserved : goal.loop-place-preserved
loop-place-preserved g c =
    each_take_one (λ e. is_node e.link.to c.args.to ≡ false) c.args.outs.now c.loop-place.place c.index-outs-place.result (omega (arith, c.loop-place-test.true)) c.loop-place.invariant (ap (λ (e : OutEndView). is_node e.link.to c.args.to) (sym c.index-outs-place.is) ∙ (sym c.leads_to.ensures ∙ c.if-leads_to.false))

pub returns : goal.returns
returns g c =
    let all : length c.args.outs.now ≡ c.loop-place.place = omega (arith, c.loop-place-test.false, c.loop-place.auto.place-end) in
    none_to c.args.to c.args.outs.now (each_whole (λ e. is_node e.link.to c.args.to ≡ false) c.args.outs.now c.loop-place.place all c.loop-place.invariant)
