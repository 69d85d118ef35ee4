use Rattle.std.proofs.Common.{◌∙◌}
use Rattle.flux_producer.specs.ProducerView.{contents_of}
use Rattle.trio_core.proofs.Pulling.{mapped_twice, pull_asked_so, pull_refused_so}
use Rattle.trio_core.proofs.nodes.TrioCore.pull_of.Goals as goal

pub returns-clause-asked : goal.returns-clause-asked
returns-clause-asked c = pull_asked_so c.args.self.now c.args.from c.args.to c.requires.named c.station.result.now c.station-2.result.now c.station.ensures c.station-2.ensures
    _ _ (mapped_twice contents_of (λ p. p.now) c.producer-producer.result ∙ c.producer-producer.ensures) c.consumer-consumer.ensures
    c.part_of.result c.part_of-2.result c.part_of.ensures c.part_of-2.ensures c.pull_between.result c.pull_between.ensures.found

pub returns-clause-refused : goal.returns-clause-refused
returns-clause-refused c = pull_refused_so c.args.self.now c.args.from c.args.to c.requires.named c.station.result.now c.station-2.result.now c.station.ensures c.station-2.ensures
    _ _ (mapped_twice contents_of (λ p. p.now) c.producer-producer.result ∙ c.producer-producer.ensures) c.consumer-consumer.ensures
    c.part_of.result c.part_of-2.result c.part_of.ensures c.part_of-2.ensures c.pull_between.result c.pull_between.ensures.refused
