-- The group's controller has an in-edge: the one from ingress.
use Rattle.std.proofs.Common.{◌≡◌, ◌≤◌, ℕ, length, ap, sym, subst, arith}
use Rattle.trio_machine.specs.Machine.{State}
use Rattle.trio_machine.specs.declared.node.TrioNode.{TrioNode}
use Rattle.trio_machine.specs.declared.node.TrioNode.TheVariants as node
use Rattle.trio_nodes.specs.ControllerPackets as of_control
use Rattle.trio_nodes.specs.ControllerView.{ControllerView, node_of}
use Rattle.trio_core.specs.CoreView.{CoreView, flow_in}
use Rattle.trio_core.specs.Stands.{IsCore, StandsFor}
use Rattle.pair_machine.specs.Counts.{flow_of}

-- the stage of a node
stage_in : TrioNode → ℕ
stage_in node.Ingress = 0
stage_in (node.Replica s p c) = s
stage_in (node.Control s p) = s
stage_in node.Egress = 0

module _ (core : CoreView) (c : ControllerView) (is : IsCore core) (named : node_of c ≡ node.Control 1 0) (stands : (s : State) → StandsFor core s → of_control.StandsFor (flow_in core) c (s.nodes (node.Control 1 0))) where
  pub has_edge : 1 ≤ length c.acked
  unfolding flow_of stage_in
  has_edge =
      let stage : c.stage ≡ 1 = ap stage_in named in
      let edges : length c.acked ≡ (flow_in core).sources c.stage = (stands is.state is.stands).edges in
      let one : (flow_in core).sources c.stage ≡ 1 = subst (λ n. (flow_in core).sources n ≡ 1) (sym stage) is.plan.one_source in
      omega (arith, edges, one)
