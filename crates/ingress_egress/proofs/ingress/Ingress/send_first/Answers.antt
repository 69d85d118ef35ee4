use Rattle.std.proofs.Common.{◌≡◌, ◌∙◌, ◌++◌, [], ◌∷◌, Some, ap, sym, subst}
use Rattle.ack_buffer.specs.Buffer.{item_at}
use Rattle.flux_producer.specs.Due.{due_of}
use Rattle.flux_producer.specs.ProducerView.{ProducerView, buffer_at, sent_on}
use Rattle.tuple_edge.specs.declared.event.Worked.TheVariants as worked
use Rattle.ingress_egress.specs.EgressView.{WorkDone}
use Rattle.ingress_egress.specs.IngressView.{IngressView, producer_at, tuple_of, with_producer, working}
use Rattle.ingress_egress.proofs.IngressSteps.{did_send, producer_there}
use Rattle.ingress_egress.proofs.ingress.Ingress.send_first.Goals as goal

pub send-item-requires : goal.send-item-requires
send-item-requires c =
    let same = ap (λ (v : IngressView). v.producers) c.self.view_is in
    ap due_of (producer_there c.args.self.now c.self.inside.producers.items c.in-Some.source c.index_mut.result.now same c.in-Some.ensures.there c.index_mut.ensures.value) ∙ c.in-Some.ensures.due

done : (c : goal.After-push_tuple) → working c.args.self.now ≡ record {
  after = with_producer c.args.self.now c.in-Some.source (sent_on (producer_at c.args.self.now c.in-Some.source) c.in-Some.due.to c.in-Some.due.copy);
  sent = tuple_of c.in-Some.source c.in-Some.due c.send-item.result ∷ [];
  worked = worked.Did;
}
done c =
    let same = ap (λ (v : IngressView). v.producers) c.self.view_is in
    let there = producer_there c.args.self.now c.self.inside.producers.items c.in-Some.source c.index_mut.result.now same c.in-Some.ensures.there c.index_mut.ensures.value in
    did_send c.args.self.now c.in-Some.source c.in-Some.due c.send-item.result (sym c.in-Some.ensures.source) c.in-Some.ensures.due
    (subst (λ (y : ProducerView). item_at (buffer_at y c.in-Some.due.to) c.in-Some.due.number ≡ Some c.send-item.result) there c.send-item.ensures.item)

pub returns-clause-worked : goal.returns-clause-worked
returns-clause-worked c = ap (λ (w : WorkDone IngressView). w.worked) (sym (done c))

pub returns-clause-packets : goal.returns-clause-packets
returns-clause-packets c =
    c.push_tuple.ensures ∙ ap (λ ps. ps ++ tuple_of c.in-Some.source c.in-Some.due c.send-item.result ∷ []) c.in_ok-reserve.ensures.packets
    ∙ ap (λ (w : WorkDone IngressView). c.args.out.now.packets ++ w.sent) (sym (done c))
