use Rattle.std.proofs.Common.{◌≡◌, ◌+◌, ◌*◌, ◌∙◌, ap, arith, drop, refl, subst, sym}
use Rattle.std.specs.Prelude.{slice_get}
use Rattle.std.proofs.lemmas.List.{drop-drop}
use Rattle.ingress_egress.specs.IngressStands.{IsAtHand, IsMade}
use Rattle.ingress_egress.specs.IngressView.{HaveMadeAtMost, IngressView}
use Rattle.tuple_edge.specs.declared.event.Worked.TheVariants as worked
use Rattle.ingress_egress.proofs.EachSource.{make_is}
use Rattle.ingress_egress.proofs.IngressPlan.{contents_kept, next_made}
use Rattle.ingress_egress.proofs.ingress.Ingress.make_next.Goals as goal

here : (c : goal.After-self-1) → IngressView
here c = record {
  inputs = c.self.inside.came.items;
  ended = c.self.inside.ended;
  first = c.self.inside.first;
  mark = c.self.inside.mark;
  makes = c.self.inside.makes;
  producers = c.self.inside.producers.items;
}

at_hand : (c : goal.After-self-1) → IsAtHand (here c)
unfolding here
at_hand c = subst IsAtHand (sym c.self.view_is) (c.is_at_hand.ensures.0 c.if-not-is_at_hand.false)

pub returns-clause-made : goal.returns-clause-made
unfolding here
returns-clause-made c =
    subst (λ v. IsMade v (record (here c) { makes = c.self.inside.makes + 1; producers = c.make_with_room.new.producers.items }) worked.Did) c.self.view_is
    (make_is (here c) c.make_with_room.new.producers.items c.next-input.result (c.self.inside.makes + 1) refl
    (c.next-input.ensures ∙ ap (λ (v : IngressView). slice_get v.inputs v.makes) (sym c.self.view_is)) (at_hand c) c.make_with_room.ensures.len c.in_ok-make_with_room.ensures.made)

pub invariant_of-self : goal.invariant_of-self
invariant_of-self c =
    let inv = c.self.invariant in
    let len = c.in_err-make_with_room.ensures.len in
    let kept = contents_kept c.self.inside.first.parts (2 * c.self.inside.makes) c.self.inside.producers.items c.make_with_room.new.producers.items
    c.in_err-make_with_room.ensures.contents len (record { wide = inv.wide; made = inv.produced }) in
    record {
      parts = inv.parts;
      mark = inv.mark;
      counted = inv.counted;
      few_inputs = inv.few_inputs;
      held = inv.held;
      made = inv.made;
      open_made = inv.open_made;
      few_sources = let few = inv.few_sources in omega arith;
      wide = kept.wide;
      produced = kept.made;
      times = inv.times;
    }

pub invariant_of-self-2 : goal.invariant_of-self-2
unfolding here
invariant_of-self-2 c =
    let inv = c.self.invariant in
    let hand = at_hand c in
    let len = c.make_with_room.ensures.len in
    let kept = next_made c.self.inside.first.parts (2 * c.self.inside.makes) c.self.inside.first c.self.inside.mark (c.self.inside.makes + 1) c.next-input.result c.self.inside.producers.items c.make_with_room.new.producers.items
    (record { wide = inv.wide; made = inv.produced }) len c.in_ok-make_with_room.ensures.made in
    let twice : 2 * c.self.inside.makes + 2 ≡ 2 * (c.self.inside.makes + 1) = omega arith in
    let counted = inv.counted in
    record {
      parts = inv.parts;
      mark = inv.mark;
      counted = inv.counted;
      few_inputs = inv.few_inputs;
      held = c.pop_front.ensures.rest ∙ ap (drop 1) inv.held ∙ drop-drop 1 c.self.inside.makes c.self.inside.came.items;
      made = let within = hand.0 in omega arith;
      open_made = λ more. let within = hand.1 more in omega arith;
      few_sources = let few = inv.few_sources in omega arith;
      wide = kept.wide;
      produced = subst (λ n. HaveMadeAtMost n c.make_with_room.new.producers.items) twice kept.made;
      times = inv.times;
    }
