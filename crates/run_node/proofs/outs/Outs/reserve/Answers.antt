use Rattle.std.proofs.Common.{◌≡◌, ◌∙◌, ◌++◌, List, [], ◌∷◌, length, take, drop, ap, subst, sym, arith}
use Rattle.run_node.specs.Ends.{HaveRoom, OutEndView, OutLink, links_of}
use Rattle.run_node.specs.FirstLinks.{AreFirst, receivers}
use Rattle.run_node.proofs.Places.{written}
use Rattle.run_node.proofs.outs.Outs.reserve.Goals as goal

no_room : (es : List OutEndView) → HaveRoom 0 es
no_room [] = tt
no_room (e ∷ es) = (omega arith, no_room es)

pub invariant_of-self : goal.invariant_of-self
invariant_of-self g c =
    let n = c.self.inside in
    let made = c.reserve_all.new.outs in
    let long : length c.deref_mut.result.now ≡ n.ends.len = omega (arith, c.deref_mut.ensures.len) in
    let ends : List OutEndView = take n.ends.len (made ++ drop (length made) n.ends.items) in
    let same : ends ≡ made = written n.ends.len made n.ends.items (c.reserve_all.auto.outs ∙ long) in
    let links : links_of ends ≡ links_of n.ends.items = ap links_of same ∙ c.reserve_all.ensures.links ∙ ap links_of c.deref_mut.ensures.value in
    (no_room ends, subst (λ (ls : List OutLink). AreFirst n.firsts (receivers ls)) (sym links) c.self.invariant.1)

pub invariant_of-self-2 : goal.invariant_of-self-2
invariant_of-self-2 g c =
    let n = c.self.inside in
    let made = c.reserve_all.new.outs in
    let long : length c.deref_mut.result.now ≡ n.ends.len = omega (arith, c.deref_mut.ensures.len) in
    let ends : List OutEndView = take n.ends.len (made ++ drop (length made) n.ends.items) in
    let same : ends ≡ made = written n.ends.len made n.ends.items (c.reserve_all.auto.outs ∙ long) in
    let links : links_of ends ≡ links_of n.ends.items = ap links_of same ∙ c.reserve_all.ensures.links ∙ ap links_of c.deref_mut.ensures.value in (
      subst (HaveRoom c.max-room.result) (sym same) c.in_ok-reserve_all.ensures.room,
      subst (λ (ls : List OutLink). AreFirst n.firsts (receivers ls)) (sym links) c.self.invariant.1,
    )
