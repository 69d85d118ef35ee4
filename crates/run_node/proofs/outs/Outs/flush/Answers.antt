use Rattle.std.proofs.Common.{◌≡◌, ◌∙◌, ◌++◌, List, length, take, drop, ap, subst, sym, arith}
use Rattle.run_node.specs.Ends.{HaveRoom, OutEndView, OutLink, links_of}
use Rattle.run_node.specs.FirstLinks.{AreFirst, receivers}
use Rattle.run_node.proofs.Places.{written}
use Rattle.run_node.proofs.outs.Outs.flush.Goals as goal

pub invariant_of-self : goal.invariant_of-self
invariant_of-self g c =
    let n = c.self.inside in
    let long : length c.deref_mut.result.now ≡ n.ends.len = omega (arith, c.deref_mut.ensures.len) in
    let ends : List OutEndView = take n.ends.len (c.flush_all-self-inside.new.outs ++ drop (length c.flush_all-self-inside.new.outs) n.ends.items) in
    let same : ends ≡ c.flush_all-self-inside.new.outs = written n.ends.len c.flush_all-self-inside.new.outs n.ends.items (c.flush_all-self-inside.auto.outs ∙ long) in
    let links : links_of ends ≡ links_of n.ends.items = ap links_of same ∙ c.flush_all-self-inside.ensures.links ∙ ap links_of c.deref_mut.ensures.value in (
      subst (HaveRoom n.room) (sym same) (c.flush_all-self-inside.ensures.room n.room (subst (HaveRoom n.room) (sym c.deref_mut.ensures.value) c.self.invariant.0)),
      subst (λ (ls : List OutLink). AreFirst n.firsts (receivers ls)) (sym links) c.self.invariant.1,
    )
