use Rattle.std.proofs.Common.{arith, ◌<◌, length}
use Rattle.ingress_egress.proofs.EachSource.{contents_stay, room_next}
use Rattle.ingress_egress.proofs.making.reserve_each.Goals as goal

pub returns-in_err-reserve-clause-contents : goal.returns-in_err-reserve-clause-contents
returns-in_err-reserve-clause-contents c = contents_stay _ _ _ c.index_mut.result.now _ c.loop-source.invariant.contents c.index_mut.ensures.value c.reserve.ensures.contents

pub loop-source-preserved : goal.loop-source-preserved
loop-source-preserved c =
    let inside : c.loop-source.source < length c.loop-source.producers.items = omega arith in
    room_next _ _ _ _ c.index_mut.result.now _ c.loop-source.invariant inside c.index_mut.ensures.value c.reserve.ensures.contents c.in_ok-reserve.ensures.room
