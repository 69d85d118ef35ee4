use Rattle.std.proofs.Common.{◌≡◌, ◌≤◌, ◌∙◌, ℕ, List, ap, arith, map, subst, sym}
use Rattle.flux_producer.specs.OutEdge.{OutEdgeView}
use Rattle.flux_producer.specs.ProducerView.{HasRoom, MayGrow, ProducerView, contents_of, without_room}
use Rattle.flux_producer.proofs.Rooms.{each_may, grows_alike}
use Rattle.flux_producer.proofs.producer.Producer.make_room.Goals as goal

-- the edges of a producer, and those that it has after room was made
grows_after : (before after : ProducerView) (former latter : List OutEdgeView) (items : ℕ) → former ≡ before.edges → latter ≡ after.edges
    → contents_of after ≡ contents_of before → MayGrow former items → MayGrow latter items
grows_after before after former latter items is_former is_latter same grows =
    grows_alike former latter items (ap (map without_room) is_latter ∙ ap (λ (p : ProducerView). p.edges) same ∙ ap (map without_room) (sym is_former)) grows

pub invariant_of-self : goal.invariant_of-self
invariant_of-self c =
    let before = c.deref.ensures.value ∙ ap (λ (p : ProducerView). p.edges) c.self.view_is in
    let after = ap (λ (p : ProducerView). p.edges) c.self-2.view_is in
    let grows = grows_after _ _ c.deref.result.now c.self-2.inside.edges.items c.max-more.result before after c.reserve.ensures.contents (c.may_grow.ensures.0 c.if-not-may_grow.false) in
    let room = subst (λ edges. HasRoom edges c.max-more.result) (sym after) c.in_ok-reserve.ensures.room in
    record {
      some = c.self-2.invariant.some;
      few = c.self-2.invariant.few;
      targets = c.self-2.invariant.targets;
      known = each_may c.self-2.inside.edges.items c.max-more.result room grows;
    }

pub returns-clause-fits : goal.returns-clause-fits
returns-clause-fits c =
    let before = c.deref.ensures.value ∙ ap (λ (p : ProducerView). p.edges) c.self.view_is in
    let after = ap (λ (p : ProducerView). p.edges) c.self-2.view_is in
    let grows = grows_after _ _ c.deref.result.now c.self-2.inside.edges.items c.max-more.result before after c.reserve.ensures.contents (c.may_grow.ensures.0 c.if-not-may_grow.false) in
    let no_more : c.args.items ≤ c.max-more.result = omega arith in
    λ t below. let h = grows t below in omega (arith, h, no_more)
