use Rattle.std.proofs.Common.{◌<◌, ◌∙◌, length, ap, arith, refl}
use Rattle.run_node.specs.Ends.{InEndView}
use Rattle.run_node.proofs.Places.{map_set_same}
use Rattle.run_node.proofs.Takes.{waits_at}
use Rattle.run_node.proofs.receiving.waiting_at.Goals as goal

pub returns-then-look-clause-links : goal.returns-then-look-clause-links
returns-then-look-clause-links g c =
    let old = c.index_mut.result.now in
    map_set_same (λ (e : InEndView). e.link) c.loop-looked.ins.items c.wrapped-place.result c.look.new.self old
    (c.look.ensures.link ∙ ap (λ (e : InEndView). e.link) c.index_mut.ensures.value) ∙ c.loop-looked.invariant.0

pub returns-then-look-clause-waits : goal.returns-then-look-clause-waits
returns-then-look-clause-waits g c =
    let lt : c.wrapped-place.result < length c.loop-looked.ins.items = omega (arith, c.wrapped-place.ensures, c.len-count.ensures, c.loop-looked.invariant.1) in
    waits_at c.loop-looked.ins.items c.wrapped-place.result c.look.new.self lt (c.if-look.ensures.next refl)

pub loop-looked-preserved : goal.loop-looked-preserved
loop-looked-preserved g c =
    let old = c.index_mut.result.now in (
      map_set_same (λ (e : InEndView). e.link) c.loop-looked.ins.items c.wrapped-place.result c.look.new.self old
          (c.look.ensures.link ∙ ap (λ (e : InEndView). e.link) c.index_mut.ensures.value) ∙ c.loop-looked.invariant.0,
      c.loop-looked.invariant.1,
    )
