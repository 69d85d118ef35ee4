-- The two ends of a pull, as a core has them.
use Rattle.std.specs.Prelude.{◌≡◌, ◌≢◌, ◌⊎◌, ◌<◌, ◌+◌, ℕ, Option, None, Some, length}
use Rattle.std.specs.Option.{option_map}
use Rattle.tuple_edge.specs.declared.node.NodeId.{NodeId}
use Rattle.tuple_edge.specs.declared.node.NodeId.TheVariants as node
use Rattle.flux_consumer.specs.ConsumerView.{ConsumerView}
use Rattle.flux_producer.specs.ProducerView.{ProducerView}
use Rattle.ingress_egress.specs.IngressView.{IngressView, producer_at}
use Rattle.replica_node.specs.Phases.{running_in}
use Rattle.plan_nodes.specs.declared.state.NodeState.{NodeState}
use Rattle.plan_nodes.specs.declared.state.NodeState.TheVariants as state
use Rattle.flux_core.specs.CoreView.{CoreView, station}
use Rattle.flux_core.specs.Pulls.{IsAhead}

-- the producer of a node, where it runs; of ingress that of its source q
abbrev pub producer_in : Option NodeState → ℕ → Option ProducerView
producer_in None q = None
producer_in (Some (state.Ingress i)) q = Some (producer_at i q)
producer_in (Some (state.Replica v)) q = option_map (λ r. r.producer) (running_in v.phase)
producer_in (Some (state.Control c)) q = None
producer_in (Some (state.Egress e)) q = None

-- the consumer of a node, where it runs
abbrev pub consumer_in : Option NodeState → Option ConsumerView
consumer_in None = None
consumer_in (Some (state.Ingress i)) = None
consumer_in (Some (state.Replica v)) = option_map (λ r. r.consumer) (running_in v.phase)
consumer_in (Some (state.Control c)) = None
consumer_in (Some (state.Egress e)) = Some e.consumer

-- of two sources, the first where it is ahead, else the second
pub record IsOfTwo (i : IngressView) (t : ℕ) (c : ConsumerView) (q : ℕ) : Type 0 where
  pub two : length i.producers ≡ 2
  pub target : t < length (producer_at i 0).edges
  pub source : 0 < length c.merge.marks
  pub first : ((q ≡ 0) × IsAhead (producer_at i 0) t c 0) ⊎ ((q ≡ 1) × (IsAhead (producer_at i 0) t c 0 → ⊥))

-- The source of ingress from which a consumer takes its next item: the first of two where it is ahead, else the last.
abbrev pub IsNextSource : IngressView → (target : ℕ) → Option ConsumerView → ℕ → Type 0
IsNextSource i t None q = q + 1 ≡ length i.producers
IsNextSource i t (Some c) q = ((length i.producers ≢ 2) × (q + 1 ≡ length i.producers)) ⊎ IsOfTwo i t c q

-- so it is of a node that is ingress
abbrev pub IsNextSourceIn : Option NodeState → (target : ℕ) → Option ConsumerView → ℕ → Type 0
IsNextSourceIn None t c q = ⊥
IsNextSourceIn (Some (state.Ingress i)) t c q = IsNextSource i t c q
IsNextSourceIn (Some s) t c q = ⊥

-- the in-edge of a pull's receiver on which it takes: from a replica that of the replica's partition
abbrev pub IsSourceOf : CoreView → NodeId → (target : ℕ) → Option ConsumerView → ℕ → Type 0
IsSourceOf core node.Ingress t c q = IsNextSourceIn (station core node.Ingress).content t c q
IsSourceOf core (node.Replica s p w) t c q = q ≡ p
IsSourceOf core (node.Control s p) t c q = q ≡ p
IsSourceOf core node.Egress t c q = q ≡ 0
