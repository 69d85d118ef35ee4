-- A node stands for numbers by what it holds, whatever room its edges have.
use Rattle.std.proofs.Common.{◌≡◌, ◌≤◌, ◌∙◌, Ok, Option, None, Some, List, map, refl, sym, ap, subst, [], ◌∷◌, arith}
use Rattle.tuple_edge.specs.Input.{Input}
use Rattle.flux_producer.specs.Limits.{max_copies}
use Rattle.flux_producer.specs.ProducerView.{ProducerView, without_room}
use Rattle.flux_producer.specs.ProducerView as producer
use Rattle.node_edges.proofs.Producers.{producers_follow}
use Rattle.plan_reader.specs.PlanView.{PlanView}
use Rattle.pair_machine.specs.Boundary.{ingress_source}
use Rattle.pair_machine.specs.Counts.{items_on, made_on}
use Rattle.pair_machine.specs.Numbers.{Partition, out_edge}
use Rattle.trio_machine.specs.Boundary.{source_made}
use Rattle.trio_machine.specs.Flow.{trio_flow}
use Rattle.trio_machine.specs.Machine.{does, ingress_in, replica_in}
use Rattle.trio_machine.specs.Messages.{Act}
use Rattle.trio_machine.specs.Numbers.{Gone, Node, Replica, Running}
use Rattle.trio_nodes.specs.Ingress as ingress
use Rattle.trio_nodes.specs.IngressView.{IngressView, contents_in}
use Rattle.trio_nodes.specs.Replica as replica
use Rattle.trio_nodes.specs.Replica.{RunningStands}
use Rattle.trio_nodes.specs.ReplicaView.{ReplicaView, contents_if, partition_of}
use Rattle.trio_nodes.specs.declared.running.TrioRunning.{TrioRunning}
use Rattle.trio_core.specs.Acts.{ActsSo, IsAsked, IsRefusedSo, MayBeAsked}
use Rattle.trio_core.specs.CoreView.{Log, contents_of, contents_of_replica, inputs_in, name_of}
use Rattle.trio_core.specs.Refusals.{IsRefusal}
use Rattle.trio_core.specs.Stands.{MemberStands}
use Rattle.trio_core.specs.declared.error.TrioError.{TrioError}
use Rattle.trio_core.specs.declared.member.Member.{Member}
use Rattle.trio_core.specs.declared.member.Member.TheVariants as member
use Rattle.trio_core.specs.declared.task.TrioTask.{TrioTask}

map_twice : {X : Type 0} (f : X → X) → ((x : X) → f (f x) ≡ f x) → (xs : List X) → map f (map f xs) ≡ map f xs
map_twice f h [] = refl
map_twice f h (x ∷ xs) = λ i. h x i ∷ map_twice f h xs i

pub contents_twice : (p : ProducerView) → producer.contents_of (producer.contents_of p) ≡ producer.contents_of p
contents_twice p = ap (λ edges. record p { edges = edges }) (map_twice without_room (λ e. refl) p.edges)

module _ (plan : PlanView) (inputs : List Input) where
  pub few : (trio_flow plan inputs).replicas ≤ max_copies
  few = omega arith

  -- ---- ingress

  module _ (i : IngressView) (x : Node) where
    ingress_looks : (one other : IngressView) → other.inputs ≡ one.inputs → other.first ≡ one.first → other.mark ≡ one.mark → other.makes ≡ one.makes
        → producer.contents_of one.producer ≡ producer.contents_of other.producer → ingress.StandsFor plan inputs one x → ingress.StandsFor plan inputs other x
    ingress_looks one other a b c d e h = record {
      inputs_are = a ∙ h.inputs_are;
      first = h.first ∙ ap Some (sym b);
      mark = c ∙ h.mark;
      makes = d ∙ h.makes;
      producer = (producers_follow (trio_flow plan inputs) (items_on plan inputs) (ingress_source 0) few).contents (source_made (trio_flow plan inputs) (ingress_in x)) (ingress_in x).producer one.producer other.producer e h.producer;
    }

    pub ingress_to : ingress.StandsFor plan inputs i x → ingress.StandsFor plan inputs (contents_in i) x
    ingress_to = ingress_looks i (contents_in i) refl refl refl refl (sym (contents_twice i.producer))

    pub ingress_from : ingress.StandsFor plan inputs (contents_in i) x → ingress.StandsFor plan inputs i x
    ingress_from = ingress_looks (contents_in i) i refl refl refl refl (contents_twice i.producer)

  -- ---- a replica

  module _ (p : Partition) where
    run_to : (r : Option TrioRunning) (x : Replica) → RunningStands plan inputs p r x → RunningStands plan inputs p (contents_if r) x
    run_to (Some r) (Running x) h = record {
      consumer = h.consumer;
      producer = (producers_follow (trio_flow plan inputs) (items_on plan inputs) p few).contents (λ t. made_on plan inputs (out_edge p t) x.consumer.count) x.producer r.producer (producer.contents_of r.producer) (sym (contents_twice r.producer)) h.producer;
      entries = h.entries;
    }
    run_to None Gone h = h
    run_to (Some r) Gone h = absurd h
    run_to None (Running x) h = absurd h

    run_from : (r : Option TrioRunning) (x : Replica) → RunningStands plan inputs p (contents_if r) x → RunningStands plan inputs p r x
    run_from (Some r) (Running x) h = record {
      consumer = h.consumer;
      producer = (producers_follow (trio_flow plan inputs) (items_on plan inputs) p few).contents (λ t. made_on plan inputs (out_edge p t) x.consumer.count) x.producer (producer.contents_of r.producer) r.producer (contents_twice r.producer) h.producer;
      entries = h.entries;
    }
    run_from None Gone h = h
    run_from (Some r) Gone h = absurd h
    run_from None (Running x) h = absurd h

  replica_to : (r : ReplicaView) (x : Node) → replica.StandsFor plan inputs r x → replica.StandsFor plan inputs (contents_of_replica r) x
  replica_to r x h = record { of_plan = h.of_plan; running = run_to (partition_of r.role) r.running (replica_in x) h.running }

  pub replica_from : (r : ReplicaView) (x : Node) → replica.StandsFor plan inputs (contents_of_replica r) x → replica.StandsFor plan inputs r x
  replica_from r x h = record { of_plan = h.of_plan; running = run_from (partition_of r.role) r.running (replica_in x) h.running }

  -- ---- any node

  pub stands_in : (m : Member) (x : Node) → MemberStands plan inputs m x → MemberStands plan inputs (contents_of m) x
  stands_in (member.Ingress i) x h = ingress_to i x h
  stands_in (member.Replica r) x h = replica_to r x h
  stands_in (member.Control c) x h = h
  stands_in (member.Egress e) x h = h

  asked_out : (t : TrioTask) (m : Member) (x : Node) (a : Act) → IsAsked plan inputs t (contents_of m) x a → IsAsked plan inputs t m x a
  asked_out t (member.Ingress i) x a k = record { plan_is = k.plan_is; times = k.times; act = k.act; stands = ingress_from i x k.stands; asks = k.asks }
  asked_out t (member.Replica r) x a k = record { plan_is = k.plan_is; times = k.times; act = k.act; stands = replica_from r x k.stands; asks = k.asks }
  asked_out t (member.Control c) x a k = record { plan_is = k.plan_is; times = k.times; act = k.act; stands = k.stands; asks = k.asks }
  asked_out t (member.Egress e) x a k = record { plan_is = k.plan_is; times = k.times; act = k.act; stands = k.stands; asks = k.asks }

pub name_in : (m : Member) → name_of (contents_of m) ≡ name_of m
name_in (member.Ingress i) = refl
name_in (member.Replica r) = refl
name_in (member.Control c) = refl
name_in (member.Egress e) = refl

pub inputs_of_contents : (m : Member) → inputs_in (contents_of m) ≡ inputs_in m
inputs_of_contents (member.Ingress i) = refl
inputs_of_contents (member.Replica r) = refl
inputs_of_contents (member.Control c) = refl
inputs_of_contents (member.Egress e) = refl

pub may_be_asked_out : (t : TrioTask) (m : Member) → MayBeAsked t (contents_of m) → MayBeAsked t m
may_be_asked_out t m h = record { plan = h.plan; inputs = h.inputs; numbers = h.numbers; act = h.act; asked = asked_out h.plan h.inputs t m h.numbers h.act h.asked }

-- what a node did, its room left aside
pub acts_in : (t : TrioTask) (old new : Member) (sent : Log) → ActsSo t old new sent → ActsSo t (contents_of old) (contents_of new) sent
acts_in t old new sent h = λ plan inputs x a k.
    let z = h plan inputs x a (asked_out plan inputs t old x a k) in
    record { done = z.done; does = subst (λ n. does (trio_flow plan inputs) n a x ≡ Ok z.done) (sym (name_in old)) z.does; stands = stands_in plan inputs new z.done.0 z.stands; packets = z.packets }

pub refused_in : (t : TrioTask) (m : Member) (e : TrioError) → IsRefusedSo t m e → IsRefusedSo t (contents_of m) e
refused_in t m e h = λ plan inputs x a k. subst (λ n. IsRefusal (does (trio_flow plan inputs) n a x) e) (sym (name_in m)) (h plan inputs x a (asked_out plan inputs t m x a k))
