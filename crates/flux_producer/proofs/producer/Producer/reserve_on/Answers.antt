use Rattle.std.proofs.Common.{◌∙◌, ap}
use Rattle.std.proofs.Math.Seq.{map-set_same}
use Rattle.flux_producer.specs.ProducerView.{contents_of, without_room}
use Rattle.flux_producer.proofs.producer.Producer.reserve_on.Goals as goal

pub returns-clause-contents : goal.returns-clause-contents
returns-clause-contents c =
    ap (λ edges. record { stage = c.self.inside.stage; from = c.self.inside.from; copies = c.self.inside.copies; term = c.self.inside.term; leads = c.self.inside.leads; edges = edges })
    (map-set_same without_room c.self.inside.edges.items c.args.to c.reserve.new.self c.index_mut.result.now (ap without_room c.reserve.ensures.contents ∙ ap without_room c.index_mut.ensures.value))
    ∙ ap contents_of c.self.view_is
