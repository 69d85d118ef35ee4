use Rattle.std.proofs.Common.{◌∙◌, Some, ap, sym}
use Rattle.std.specs.Option.{option_map}
use Rattle.flux_producer.specs.ProducerView.{contents_of}
use Rattle.tuple_edge.specs.declared.event.Event.TheVariants as event
use Rattle.flux_core.specs.CoreView.{inputs_of, standing}
use Rattle.flux_core.specs.Ends.{consumer_in, producer_in}
use Rattle.flux_core.proofs.EndsOf.{PullDone, few_sources, mapped_twice, pull_done}
use Rattle.flux_core.proofs.There.{there}
use Rattle.flux_core.proofs.nodes.Core.pull_of.Given as given
use Rattle.flux_core.proofs.nodes.Core.pull_of.Goals as goal

-- what comes of it
came : (g : given.Over) (c : goal.After-pull_between g) → PullDone c.args.self.now c.args.from c.args.to c.pull_between.result
came g c = pull_done c.args.self.now c.source_of.ensures.core c.args.from c.args.to c.requires.named c.in_ok-source.source (option_map (λ p. p.now) c.producer-producer.result) (option_map (λ k. k.now) c.consumer-consumer.result)
    (sym (mapped_twice contents_of (λ p. p.now) c.producer-producer.result) ∙ c.producer-producer.ensures ∙ ap (λ o. producer_in (standing o).content c.in_ok-source.source) (sym c.station-2.ensures.value))
    (c.consumer-consumer.ensures ∙ ap (λ o. consumer_in (standing o).content) (sym c.station.ensures.value))
    c.part_of-target.result c.part_of-target.ensures c.in_ok-source.ensures.source c.pull_between.result c.pull_between.ensures.found c.pull_between.ensures.refused

pub returns-clause-asked : goal.returns-clause-asked
returns-clause-asked g c = (came g c).asked

pub returns-clause-timely : goal.returns-clause-timely
returns-clause-timely g c = (came g c).timely

pub returns-clause-refused : goal.returns-clause-refused
returns-clause-refused g c = (came g c).refused

pub producer-producer-requires : goal.producer-producer-requires
producer-producer-requires g c = λ i here. few_sources c.args.self.now c.source_of.ensures.core c.args.from
    (there c.args.self.now.plan (inputs_of c.args.self.now) c.source_of.ensures.core.plan (event.Pull c.args.from c.args.to) c.requires.named).0
    c.part_of-target.result c.in_ok-source.source (option_map (λ k. k.now) c.consumer-consumer.result) c.in_ok-source.ensures.source i (ap (λ o. (standing o).content) c.station-2.ensures.value ∙ ap Some here)
