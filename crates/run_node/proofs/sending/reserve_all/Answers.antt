use Rattle.std.proofs.Common.{◌∙◌, ◌≤◌, ◌<◌, length, arith}
use Rattle.run_node.proofs.Places.{each_take_next, map_set_same}
use Rattle.run_node.proofs.sending.reserve_all.Goals as goal

pub returns-in_err-reserve-clause-links : goal.returns-in_err-reserve-clause-links
returns-in_err-reserve-clause-links g c =
    map_set_same (λ e. e.link) c.loop-place.outs c.loop-place.place c.reserve.new.self c.index-outs-place.result c.reserve.ensures.link ∙ c.loop-place.invariant.links

pub loop-place-preserved : goal.loop-place-preserved
loop-place-preserved g c =
    let h = c.loop-place.invariant in
    let lt : c.loop-place.place < length c.loop-place.outs = omega (arith, c.loop-place-test.true, c.loop-place.auto.outs) in
    record {
      links = map_set_same (λ e. e.link) c.loop-place.outs c.loop-place.place c.reserve.new.self c.index-outs-place.result c.reserve.ensures.link ∙ h.links;
      room = each_take_next (λ e. c.args.packets ≤ e.spare) c.loop-place.outs c.loop-place.place c.reserve.new.self lt h.room c.in_ok-reserve.ensures.spare;
    }
