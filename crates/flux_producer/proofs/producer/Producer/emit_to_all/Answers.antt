use Rattle.std.proofs.Common.{◌≡◌, ◌-◌, ◌∙◌, ap, arith, length, map, subst, sym}
use Rattle.std.proofs.lemmas.List.{length-map}
use Rattle.flux_producer.specs.OutEdge.{OutEdgeView, with_item}
use Rattle.flux_producer.specs.ProducerView.{EachMayHave}
use Rattle.flux_producer.proofs.Rooms.{each_after, one_fewer}
use Rattle.flux_producer.proofs.producer.Producer.emit_to_all.Goals as goal

pub invariant_of-self : goal.invariant_of-self
invariant_of-self c =
    let edges = c.self.inside.edges.items in
    let after = λ (e : OutEdgeView). with_item e c.args.item in
    let left : c.saturating_sub-self-inside.result ≡ c.self.inside.room - 1 = omega arith in
    let known = each_after after edges c.self.inside.room (c.self.inside.room - 1) c.self.invariant.known (λ e. one_fewer e c.args.item c.self.inside.room) in
    let many = ap length c.produce_all.ensures ∙ length-map edges after in
    record {
      some = c.self.invariant.some;
      few = c.self.invariant.few;
      targets = omega (arith, c.self.invariant.targets, many);
      known = subst (λ es. EachMayHave es c.saturating_sub-self-inside.result) (sym c.produce_all.ensures) (subst (EachMayHave (map after edges)) (sym left) known);
    }
