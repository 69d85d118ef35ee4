use Rattle.std.proofs.Common.{◌∙◌, ◌≤◌, ◌<◌, length, arith}
use Rattle.run_node.proofs.Places.{each_at_place, each_set, map_set_same}
use Rattle.run_node.proofs.sending.flush_all.Goals as goal

pub loop-place-preserved : goal.loop-place-preserved
loop-place-preserved g c =
    let h = c.loop-place.invariant in
    let lt : c.loop-place.place < length c.loop-place.outs = omega (arith, c.loop-place-test.true, c.loop-place.auto.outs) in
    record {
      links = map_set_same (λ e. e.link) c.loop-place.outs c.loop-place.place c.flush.new.self c.index-outs-place.result c.flush.ensures.link ∙ h.links;
      room = λ k room.
          let here = h.room k room in
          let old = each_at_place (λ e. k ≤ e.spare) c.loop-place.outs c.loop-place.place c.index-outs-place.result here lt in
          each_set (λ e. k ≤ e.spare) (λ e. k ≤ e.spare) c.loop-place.outs c.loop-place.place c.flush.new.self (λ x le. le) here (omega (arith, old, c.flush.ensures.spare));
    }
