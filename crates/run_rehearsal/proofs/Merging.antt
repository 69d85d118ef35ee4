-- How many items a replica of a core has merged is what the machine numbers in each state for which the core stands.
use Rattle.std.proofs.Common.{◌≡◌, Bool, true, false, List, Option, None, Some, refl, sym, ap, subst}
use Rattle.std.specs.Prelude.{ℕ, if◌then◌else◌}
use Rattle.tuple_edge.specs.Input.{Input}
use Rattle.tuple_edge.specs.declared.node.NodeId.{NodeId}
use Rattle.tuple_edge.specs.declared.node.NodeId.TheVariants as node
use Rattle.plan_reader.specs.Nodes.{has_node, has_replica, is_replica}
use Rattle.plan_reader.specs.PlanView.{PlanView}
use Rattle.pair_machine.specs.Machine.{State, replica_in}
use Rattle.pair_machine.specs.Numbers.{Gathering, Gone, Node, Partition, Replica, Running}
use Rattle.pair_machine.specs.declared.order.Order.{Order}
use Rattle.pair_machine.proofs.PlanNodes.{nodes_named}
use Rattle.pair_machine.proofs.Tests.{both}
use Rattle.replica_node.specs.ReplicaView.{partition_of}
use Rattle.replica_node.specs.StandsFor.{PhaseStands}
use Rattle.replica_node.specs.declared.phase.Phase.{Phase}
use Rattle.replica_node.specs.declared.phase.Phase.TheVariants as phase
use Rattle.plan_nodes.specs.declared.state.NodeState.{NodeState}
use Rattle.plan_nodes.specs.declared.state.NodeState.TheVariants as state
use Rattle.flux_core.specs.CoreView.{CoreView, inputs_of, station}
use Rattle.flux_core.specs.Stands.{ContentStands, StandsFor}
use Rattle.run_end.specs.declared.ends.RunEnd.{RunEnd}
use Rattle.run_watch.specs.declared.happening.Told.{Told}
use Rattle.run_rehearsal.specs.Merged.{merged_at, merged_by, merged_in, merged_seen, merged_so_far}
use Rattle.run_rehearsal.specs.RehearsalText.{rehearsal_text}

module _ (plan : PlanView) (inputs : List Input) where
  phase_merged : (p : Partition) (v : Phase) (r : Replica) → PhaseStands plan inputs p v r → merged_so_far v ≡ merged_by r
  phase_merged p (phase.Running r) (Running x) h = ap Some h.consumer.count
  phase_merged p (phase.Running r) (Gathering x) h = absurd h
  phase_merged p (phase.Running r) (Gone i) h = absurd h
  phase_merged p (phase.Gathering g) (Running x) h = absurd h
  phase_merged p (phase.Gathering g) (Gathering x) h = refl
  phase_merged p (phase.Gathering g) (Gone i) h = absurd h
  phase_merged p (phase.Gone inc) (Running x) h = absurd h
  phase_merged p (phase.Gone inc) (Gathering x) h = absurd h
  phase_merged p (phase.Gone inc) (Gone i) h = refl

  node_merged : (n : NodeId) (o : Option NodeState) (x : Node) → is_replica n ≡ true → ContentStands plan inputs n o x → merged_at o ≡ merged_by (replica_in x)
  node_merged n None x e h = absurd h
  node_merged n (Some (state.Ingress i)) x e h = let z : is_replica node.Ingress ≡ true = subst (λ m. is_replica m ≡ true) (sym h.0) e in absurd (let y : ⊥ = cc z in y)
  node_merged n (Some (state.Replica v)) x e h = phase_merged (partition_of v.role) v.phase (replica_in x) h.1.phase_stands
  node_merged n (Some (state.Control c)) x e h = let z = subst (λ m. is_replica m ≡ true) (sym h.0) e in absurd (let y : ⊥ = cc z in y)
  node_merged n (Some (state.Egress e1)) x e h = let z : is_replica node.Egress ≡ true = subst (λ m. is_replica m ≡ true) (sym h.0) e in absurd (let y : ⊥ = cc z in y)

merged_so : (core : CoreView) (s : State) → StandsFor core s → (n : NodeId) → merged_seen core n ≡ merged_in core.plan s n
merged_so core s stands n = go (has_replica core.plan n) refl
  where
    go : (b : Bool) → has_replica core.plan n ≡ b → (if b then merged_at (station core n).content else None) ≡ (if b then merged_by (replica_in (s.nodes n)) else None)
    go false e = refl
    go true e =
        let z = both (is_replica n) (has_node core.plan n) e in
        node_merged core.plan (inputs_of core) n (station core n).content (s.nodes n) z.0 (stands n ((nodes_named core.plan (inputs_of core) n).there z.1)).content

-- the text by what a core holds is that by the state
pub text_so : (core : CoreView) (s : State) → StandsFor core s → (told : List Told) (orders : List Order) (rows : ℕ) (end : RunEnd) (all : ℕ)
    → rehearsal_text told orders (merged_seen core) rows end all ≡ rehearsal_text told orders (merged_in core.plan s) rows end all
text_so core s stands told orders rows end all = λ j. rehearsal_text told orders (λ n. merged_so core s stands n j) rows end all
