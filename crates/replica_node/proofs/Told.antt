-- What a replica is told as a producer, and the items that it takes, come to what the machine's replica does.
use Rattle.std.proofs.Common.{◌≡◌, ◌<◌, ◌+◌, ℕ, Bool, true, false, List, [], Some, refl, sym, ap, ◌∙◌, subst}
use Rattle.std.specs.Prelude.{◌==◌, if◌then◌else◌}
use Rattle.tuple_edge.specs.declared.item.Item.{Item}
use Rattle.tuple_edge.specs.declared.node.EdgeId.{EdgeId}
use Rattle.tuple_edge.specs.declared.node.NodeId.{NodeId}
use Rattle.tuple_edge.specs.declared.packet.Body.TheVariants as body
use Rattle.tuple_edge.specs.Input.{Input}
use Rattle.merge_order.specs.Edges.{item_at}
use Rattle.merge_order.specs.MergeView.{after_offer}
use Rattle.flux_consumer.specs.ConsumerView.{with_merge}
use Rattle.flux_producer.specs.ProducerView.{leading}
use Rattle.plan_reader.specs.Nodes.{sources_of}
use Rattle.plan_reader.specs.PlanView.{PlanView}
use Rattle.pair_machine.specs.Consumers.{offered}
use Rattle.pair_machine.specs.Contents.{BodyStands}
use Rattle.pair_machine.specs.Counts.{entries_after, flow_of, items_on, made_on}
use Rattle.pair_machine.specs.Links.{link}
use Rattle.pair_machine.specs.Messages.{Ack, Lead, Message, Tuple, Want}
use Rattle.pair_machine.specs.Numbers.{Consumer, GatheringNumbers, Gone, Replica, RunningNumbers, in_edge, out_edge}
use Rattle.pair_machine.specs.Numbers as numbers
use Rattle.pair_machine.specs.Producers as machine
use Rattle.pair_machine.specs.Replicas.{insert_in, replica_takes, takes_ack, takes_lead, takes_tuple, takes_want, which_of}
use Rattle.node_edges.specs.OutEdges.{ProducerStands, copy_of}
use Rattle.node_edges.proofs.Consumers as consumers
use Rattle.node_edges.proofs.Producers as producers
use Rattle.node_edges.proofs.Producers.{few_of_pair}
use Rattle.catch_up.specs.NewcomerView.{NewcomerView, after_hold}
use Rattle.replica_node.specs.Admitted.{IsFromHere, IsIntoHere}
use Rattle.replica_node.specs.Phases.{ack_taken, lead_taken, tuple_taken, want_taken}
use Rattle.replica_node.specs.ReplicaView.{node_of, partition_of}
use Rattle.replica_node.specs.StandsFor.{GatheringStands, IsOfPlan, PhaseStands, RunningStands}
use Rattle.replica_node.specs.declared.phase.Phase.{Phase}
use Rattle.replica_node.specs.declared.phase.Phase.TheVariants as phase
use Rattle.replica_node.specs.declared.phase.Running.{Running}
use Rattle.replica_node.specs.declared.role.Role.{Role}
use Rattle.replica_node.proofs.Roles.{into_is, many_targets, merges}
use Rattle.replica_node.proofs.Steps.{ComesTo}

-- an offer merges nothing
offered_count : (x : Consumer) (q n : ℕ) → (offered x q n).count ≡ x.count
offered_count x q n = by_test (n == x.marks q + 1)
  where
    by_test : (t : Bool) → (if t then record x { marks = λ j. if j == q then n else x.marks j } else x).count ≡ x.count
    by_test true = refl
    by_test false = refl

module _ (plan : PlanView) (inputs : List Input) (role : Role) (is_of : IsOfPlan plan role) where
  -- an edge from here has its target
  target_there : (e : EdgeId) → IsFromHere role e → e.to < (flow_of plan inputs).targets role.stage
  target_there e here = subst (λ n. e.to < n) (sym (many_targets plan inputs role is_of)) here.2

  -- ---- acknowledgements

  acked_comes : (p : Phase) (x : Replica) (e : EdgeId) (upto : ℕ) → IsFromHere role e → PhaseStands plan inputs (partition_of role) p x
      → ComesTo plan inputs role (ack_taken e.to upto p) [] (takes_ack e.to upto x, [])
  acked_comes (phase.Running r) (numbers.Running x) e upto here s = record {
    stands = record {
      inc = s.inc;
      consumer = s.consumer;
      producer = producers.acks (flow_of plan inputs) (items_on plan inputs) (partition_of role) (λ t. made_on plan inputs (out_edge (partition_of role) t) x.consumer.count) x.producer r.producer e.to upto (target_there e here) s.producer;
      entries = s.entries;
      served = s.served;
      move = s.move;
    };
    packets = tt;
  }
  acked_comes (phase.Gathering g) (numbers.Gathering x) e upto here s = record { stands = s; packets = tt }
  acked_comes (phase.Gone inc) (Gone own) e upto here s = record { stands = s; packets = tt }
  acked_comes p x e upto here s = absurd s

  pub take_ack_comes : (p : Phase) (x : Replica) (from : NodeId) (e : EdgeId) (upto : ℕ) (m : Message) → IsFromHere role e
      → BodyStands plan inputs (link from (node_of role)) (body.Ack e upto) m → PhaseStands plan inputs (partition_of role) p x
      → ComesTo plan inputs role (ack_taken e.to upto p) [] (replica_takes (flow_of plan inputs) (partition_of role) from m x)
  take_ack_comes p x from e upto (Ack edge k) here st s =
      subst (λ (z : EdgeId × ℕ). ComesTo plan inputs role (ack_taken e.to upto p) [] (takes_ack z.0.to z.1 x, [])) (λ i. (st.0 i, st.1 i)) (acked_comes p x e upto here s)
  take_ack_comes p x from e upto m here st s = absurd st

  -- ---- wants

  wanted_comes : (p : Phase) (x : Replica) (from : NodeId) (e : EdgeId) (number : ℕ) → IsFromHere role e → PhaseStands plan inputs (partition_of role) p x
      → ComesTo plan inputs role (want_taken e.to (copy_of (which_of from)) number p) [] (takes_want e.to (copy_of (which_of from)) number x, [])
  wanted_comes (phase.Running r) (numbers.Running x) from e number here s = record {
    stands = record {
      inc = s.inc;
      consumer = s.consumer;
      producer = producers.wants (flow_of plan inputs) (items_on plan inputs) (partition_of role) (λ t. made_on plan inputs (out_edge (partition_of role) t) x.consumer.count) x.producer r.producer e.to (copy_of (which_of from)) number (target_there e here) (few_of_pair (which_of from)) s.producer;
      entries = s.entries;
      served = s.served;
      move = s.move;
    };
    packets = tt;
  }
  wanted_comes (phase.Gathering g) (numbers.Gathering x) from e number here s = record { stands = s; packets = tt }
  wanted_comes (phase.Gone inc) (Gone own) from e number here s = record { stands = s; packets = tt }
  wanted_comes p x from e number here s = absurd s

  pub take_want_comes : (p : Phase) (x : Replica) (from : NodeId) (e : EdgeId) (number : ℕ) (m : Message) → IsFromHere role e
      → BodyStands plan inputs (link from (node_of role)) (body.Want e number) m → PhaseStands plan inputs (partition_of role) p x
      → ComesTo plan inputs role (want_taken e.to (copy_of (which_of from)) number p) [] (replica_takes (flow_of plan inputs) (partition_of role) from m x)
  take_want_comes p x from e number (Want edge k) here st s =
      subst (λ (z : EdgeId × ℕ). ComesTo plan inputs role (want_taken e.to (copy_of (which_of from)) number p) [] (takes_want z.0.to (copy_of (which_of from)) z.1 x, [])) (λ i. (st.0 i, st.1 i)) (wanted_comes p x from e number here s)
  take_want_comes p x from e number m here st s = absurd st

  -- ---- leading

  leads_or_not : (r : Running) (x : RunningNumbers) (term : ℕ) → RunningStands plan inputs (partition_of role) r x → (own same : Bool) → own ≡ same
      → ComesTo plan inputs role (if own then phase.Running (record r { producer = leading r.producer term }) else phase.Running r) []
      ((if same then numbers.Running (record x { producer = machine.leading x.producer term }) else numbers.Running x), [])
  leads_or_not r x term s true true e = record {
    stands = record {
      inc = s.inc;
      consumer = s.consumer;
      producer = producers.leads (flow_of plan inputs) (items_on plan inputs) (partition_of role) (λ t. made_on plan inputs (out_edge (partition_of role) t) x.consumer.count) x.producer r.producer term s.producer;
      entries = s.entries;
      served = s.served;
      move = s.move;
    };
    packets = tt;
  }
  leads_or_not r x term s false false e = record { stands = s; packets = tt }
  leads_or_not r x term s true false e = let z : ⊥ = cc e in absurd z
  leads_or_not r x term s false true e = let z : ⊥ = cc e in absurd z

  led_comes : (p : Phase) (x : Replica) (inc term : ℕ) → PhaseStands plan inputs (partition_of role) p x
      → ComesTo plan inputs role (lead_taken inc term p) [] (takes_lead inc term x, [])
  led_comes (phase.Running r) (numbers.Running x) inc term s = leads_or_not r x term s (inc == r.inc) (inc == x.inc) (ap (λ n. inc == n) s.inc)
  led_comes (phase.Gathering g) (numbers.Gathering x) inc term s = record { stands = s; packets = tt }
  led_comes (phase.Gone old) (Gone own) inc term s = record { stands = s; packets = tt }
  led_comes p x inc term s = absurd s

  pub take_lead_comes : (p : Phase) (x : Replica) (from : NodeId) (inc term : ℕ) (m : Message)
      → BodyStands plan inputs (link from (node_of role)) (body.Lead inc term) m → PhaseStands plan inputs (partition_of role) p x
      → ComesTo plan inputs role (lead_taken inc term p) [] (replica_takes (flow_of plan inputs) (partition_of role) from m x)
  take_lead_comes p x from inc term (Lead i t) st s =
      subst (λ (z : ℕ × ℕ). ComesTo plan inputs role (lead_taken inc term p) [] (takes_lead z.0 z.1 x, [])) (λ j. (st.0 j, st.1 j)) (led_comes p x inc term s)
  take_lead_comes p x from inc term m st s = absurd st

  -- ---- items

  offered_stands : (r : Running) (x : RunningNumbers) (q n : ℕ) (i : Item) → q < sources_of plan role.stage → (n ≡ x.consumer.marks q + 1 → item_at (items_on plan inputs (in_edge (partition_of role) q)) n ≡ Some i)
      → RunningStands plan inputs (partition_of role) r x
      → RunningStands plan inputs (partition_of role) (record r { consumer = with_merge r.consumer (after_offer r.consumer.merge q n i) }) (record x { consumer = offered x.consumer q n })
  offered_stands r x q n i inside item s =
      let same = sym (offered_count x.consumer q n) in
      record {
        inc = s.inc;
        consumer = consumers.offers plan inputs (partition_of role) x.consumer r.consumer q n i (merges plan inputs role is_of) inside item s.consumer;
        producer = subst (λ c. ProducerStands (flow_of plan inputs) (items_on plan inputs) (partition_of role) (λ t. made_on plan inputs (out_edge (partition_of role) t) c) x.producer r.producer) same s.producer;
        entries = s.entries ∙ ap (entries_after plan inputs (partition_of role)) same;
        served = s.served;
        move = s.move;
      }

  -- what gathers holds the item: that is another rule
  abbrev pub HoldsIt : EdgeId → ℕ → Item → Type 0
  HoldsIt e n i = (g : NewcomerView) (x : GatheringNumbers) → item_at (items_on plan inputs e) n ≡ Some i → GatheringStands plan inputs (partition_of role) g x
      → GatheringStands plan inputs (partition_of role) (after_hold g e.from n i) (record x { held = λ j. if j == e.from then insert_in n (x.held e.from) else x.held j })

  offered_comes : (p : Phase) (x : Replica) (e : EdgeId) (n : ℕ) (i : Item) → IsIntoHere role e → HoldsIt e n i → item_at (items_on plan inputs e) n ≡ Some i → PhaseStands plan inputs (partition_of role) p x
      → ComesTo plan inputs role (tuple_taken e.from n i p) [] (takes_tuple e.from n x, [])
  offered_comes (phase.Running r) (numbers.Running x) e n i into holds item s = record {
    stands = offered_stands r x e.from n i (subst (λ k. e.from < k) is_of.sources into.2)
        (λ next. subst (λ z. item_at (items_on plan inputs z) n ≡ Some i) (sym (into_is role e into)) item) s;
    packets = tt;
  }
  offered_comes (phase.Gathering g) (numbers.Gathering x) e n i into holds item s = record { stands = holds g x item s; packets = tt }
  offered_comes (phase.Gone inc) (Gone own) e n i into holds item s = record { stands = s; packets = tt }
  offered_comes p x e n i into holds item s = absurd s

  pub tuple_comes : (p : Phase) (x : Replica) (from : NodeId) (e : EdgeId) (n : ℕ) (i : Item) (m : Message) → IsIntoHere role e → HoldsIt e n i
      → BodyStands plan inputs (link from (node_of role)) (body.Tuple e n i) m → PhaseStands plan inputs (partition_of role) p x
      → ComesTo plan inputs role (tuple_taken e.from n i p) [] (replica_takes (flow_of plan inputs) (partition_of role) from m x)
  tuple_comes p x from e n i (Tuple edge number) into holds st s =
      subst (λ (z : EdgeId × ℕ). ComesTo plan inputs role (tuple_taken e.from n i p) [] (takes_tuple z.0.from z.1 x, [])) (λ j. (st.0 j, st.1 j))
      (offered_comes p x e n i into holds ((λ j. item_at (items_on plan inputs (st.0 j)) (st.1 j)) ∙ st.2) s)
  tuple_comes p x from e n i m into holds st s = absurd st
