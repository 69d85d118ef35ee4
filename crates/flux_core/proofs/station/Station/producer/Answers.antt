use Rattle.std.proofs.Common.{◌∙◌, ◌<◌, ap, subst, sym}
use Rattle.flux_producer.specs.ProducerView.{contents_of as producer_contents}
use Rattle.ingress_egress.specs.IngressView.{contents_in}
use Rattle.plan_nodes.specs.States.{contents_of}
use Rattle.flux_core.specs.CoreView.{StationView}
use Rattle.flux_core.proofs.Lists.{length-map-of}
use Rattle.flux_core.proofs.station.Station.producer.Goals as goal

pub producer-requires : goal.producer-requires
producer-requires c =
    let i = c.in-Ingress.ingress in
    subst (λ n. c.args.source < n) (length-map-of producer_contents i.producers)
    (c.requires (contents_in i) (ap (λ (at : StationView). at.node) (sym c.self.view_is) ∙ ap contents_of c.in-Ingress.is))
