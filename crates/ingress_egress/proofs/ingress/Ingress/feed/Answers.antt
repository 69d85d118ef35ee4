use Rattle.std.proofs.Common.{◌≡◌, ◌≤◌, ◌<◌, ◌+◌, ◌∷◌, ◌++◌, ◌^◌, [], ◌∙◌, ap, arith, false, length, subst, sym}
use Rattle.std.proofs.lemmas.List.{drop-append-le, length-append}
use Rattle.std.proofs.lemmas.List.Elements.{All-push}
use Rattle.stream_ops.specs.Times.{IsTime}
use Rattle.tuple_edge.specs.Input.{Input}
use Rattle.ingress_egress.specs.IngressView.{IngressView, IsIngress}
use Rattle.ingress_egress.proofs.ingress.Ingress.feed.Goals as goal

pub invariant_of-self-2 : goal.invariant_of-self-2
invariant_of-self-2 c =
    let inv = c.self.invariant in
    let may = c.if-not-may_feed.false in
    let still : c.self.inside.ended ≡ false = ap (λ (v : IngressView). v.ended) c.self.view_is ∙ (c.may_feed.ensures.0 may).open_yet in
    let within = inv.open_made still in
    let counted = inv.counted in
    let came = c.self.inside.came.items in
    let one_more : length (came ++ c.args.input ∷ []) ≡ length came + 1 = length-append came (c.args.input ∷ []) in
    let fewer : length came < 2 ^ 60 = subst (λ (v : IngressView). length v.inputs < 2 ^ 60) (sym c.self.view_is) (c.may_feed.ensures.0 may).few in
    let few : c.self.inside.count + 1 ≤ 2 ^ 60 = omega arith in
    subst (λ xs. IsIngress xs c.push_back.new.self.items (c.self.inside.count + 1) c.self.inside.ended c.self.inside.first c.self.inside.mark c.self.inside.makes c.self.inside.producers.items) (sym c.and-self-inside.ensures)
    (record {
      parts = inv.parts;
      mark = inv.mark;
      counted = omega arith;
      few_inputs = few;
      held = c.in_ok-push_back.ensures.items ∙ ap (λ ys. ys ++ c.args.input ∷ []) inv.held ∙ sym (drop-append-le c.self.inside.makes came (c.args.input ∷ []) (omega arith));
      made = omega arith;
      open_made = λ more. omega arith;
      few_sources = inv.few_sources;
      wide = inv.wide;
      produced = inv.produced;
      times = All-push (λ (input : Input). IsTime input.row.time) came c.args.input inv.times ((c.may_feed.ensures.0 may).time);
    })
