-- What holds of a core after any events, whether pairs were lost or not.
use Rattle.std.specs.Prelude.{◌≡◌, ◌<◌, ℕ, List, Some, take}
use Rattle.tuple_edge.specs.Input.{Input}
use Rattle.tuple_edge.specs.declared.node.NodeId.TheVariants as node
use Rattle.tuple_edge.specs.declared.node.Which.{Which}
use Rattle.merge_order.specs.Merged.{items_from}
use Rattle.plan_reader.specs.Nodes.{sources_of}
use Rattle.plan_reader.specs.PlanView.{PlanView}
use Rattle.ingress_egress.specs.EgressView.{IsFrontOf}
use Rattle.pair_machine.specs.Counts.{entries_after, flow_of, items_on}
use Rattle.pair_machine.specs.Edges.{merged_at}
use Rattle.pair_machine.specs.Links.{HasNode}
use Rattle.pair_machine.specs.Machine.{State}
use Rattle.pair_machine.specs.Numbers.{Partition, in_edge}
use Rattle.pair_machine.specs.Output.{output}
use Rattle.pair_machine.specs.Sound.{IsOwed}
use Rattle.replica_node.specs.Phases.{running_in}
use Rattle.replica_node.specs.declared.phase.Running.{Running}
use Rattle.replica_node.specs.ReplicaView.{ReplicaView}
use Rattle.plan_nodes.specs.declared.state.NodeState.TheVariants as state
use Rattle.flux_core.specs.CoreView.{CoreView, emitted_by, flow_in, inputs_of, station}
use Rattle.flux_core.specs.Stands.{StandsFor}

-- what egress emitted is a front of the plan's output: its first rows, each once and in order
abbrev pub EmitsAFront : CoreView → Type 0
EmitsAFront core = IsFrontOf (emitted_by core) (output core.plan (inputs_of core))

-- A replica that runs has merged so many items. Its operator's entries are those after just so many items of the partition's merged list, and of
-- each edge these are the first items, each once and in order.
pub record HasMergedInOrder (plan : PlanView) (inputs : List Input) (p : Partition) (r : Running) : Type 0 where
  pub entries : r.state.entries ≡ entries_after plan inputs p r.consumer.merge.count
  pub edges : (q : ℕ) → q < sources_of plan p.stage → items_from q (take r.consumer.merge.count (merged_at plan inputs p.stage p.part))
      ≡ take ((flow_of plan inputs).used p q r.consumer.merge.count) (items_on plan inputs (in_edge p q))

-- so has each replica of the plan that runs: no item of an edge was merged twice or out of order
abbrev pub MergesInOrder : CoreView → Type 0
MergesInOrder core = (stage part : ℕ) (which : Which) → HasNode (flow_in core) (node.Replica stage part which) → (v : ReplicaView) (r : Running) → (station core (node.Replica stage part which)).content ≡ Some (state.Replica v) → running_in v.phase ≡ Some r
    → HasMergedInOrder core.plan (inputs_of core) (record { stage = stage; part = part }) r

-- the buffers hold what takeover owes
abbrev pub HoldsWhatIsOwed : CoreView → Type 0
HoldsWhatIsOwed core = (s : State) × StandsFor core s × IsOwed (flow_in core) s
