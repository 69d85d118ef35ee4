-- The numbers of a core's plan, as the machine's flow has them, and the plan's pairs.
use Rattle.std.proofs.Common.{◌≡◌, ◌≤◌, ◌<◌, ◌+◌, ℕ, true, List, length, refl}
use Rattle.tuple_edge.specs.Input.{Input}
use Rattle.tuple_edge.specs.declared.node.NodeId.TheVariants as node
use Rattle.plan_reader.specs.Nodes.{has_pair, sources_of}
use Rattle.plan_reader.specs.PlanView.{PlanView}
use Rattle.pair_machine.specs.Counts.{flow_of}
use Rattle.pair_machine.proofs.PlanNodes.{nodes_named}
use Rattle.flux_core.specs.CoreView.{CoreView, flow_in}

pub pair_named : (plan : PlanView) (inputs : List Input) (stage part : ℕ) → 1 ≤ stage → stage ≤ length plan.stages → part < sources_of plan (stage + 1) → has_pair plan stage part ≡ true
unfolding flow_of
pair_named plan inputs stage part low high within = (nodes_named plan inputs (node.Control stage part)).named ((low, high), within)

pub sources_in : (core : CoreView) (stage : ℕ) → sources_of core.plan stage ≡ (flow_in core).sources stage
unfolding flow_of
sources_in core stage = refl

pub stages_in : (core : CoreView) → length core.plan.stages ≡ (flow_in core).stages
unfolding flow_of
stages_in core = refl
