-- What of a node is asked for by its kind: the two ends of a pull, and the node itself.
use Rattle.std.specs.Prelude.{Option, None, Some}
use Rattle.std.specs.Option.{option_map}
use Rattle.flux_consumer.specs.ConsumerView.{ConsumerView}
use Rattle.flux_producer.specs.ProducerView.{ProducerView}
use Rattle.ingress_egress.specs.EgressView.{EgressView}
use Rattle.trio_nodes.specs.ControllerView.{ControllerView}
use Rattle.trio_nodes.specs.IngressView.{IngressView}
use Rattle.trio_nodes.specs.ReplicaView.{ReplicaView}
use Rattle.trio_core.specs.declared.member.Member.{Member}
use Rattle.trio_core.specs.declared.member.Member.TheVariants as member

-- the producer of a node, where it runs
abbrev pub producer_in : Member → Option ProducerView
producer_in (member.Ingress i) = Some i.producer
producer_in (member.Replica r) = option_map (λ x. x.producer) r.running
producer_in (member.Control c) = None
producer_in (member.Egress e) = None

-- the consumer of a node, where it runs
abbrev pub consumer_in : Member → Option ConsumerView
consumer_in (member.Ingress i) = None
consumer_in (member.Replica r) = option_map (λ x. x.consumer) r.running
consumer_in (member.Control c) = None
consumer_in (member.Egress e) = Some e.consumer

-- egress, where it is the node
abbrev pub egress_in : Member → Option EgressView
egress_in (member.Ingress i) = None
egress_in (member.Replica r) = None
egress_in (member.Control c) = None
egress_in (member.Egress e) = Some e

-- ingress, where it is the node
abbrev pub ingress_in : Member → Option IngressView
ingress_in (member.Ingress i) = Some i
ingress_in (member.Replica r) = None
ingress_in (member.Control c) = None
ingress_in (member.Egress e) = None

-- one of the replicas of a group, where it is the node
abbrev pub replica_in : Member → Option ReplicaView
replica_in (member.Ingress i) = None
replica_in (member.Replica r) = Some r
replica_in (member.Control c) = None
replica_in (member.Egress e) = None

-- the controller of a group, where it is the node
abbrev pub control_in : Member → Option ControllerView
control_in (member.Ingress i) = None
control_in (member.Replica r) = None
control_in (member.Control c) = Some c
control_in (member.Egress e) = None
