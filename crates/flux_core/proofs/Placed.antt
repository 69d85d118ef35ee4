-- What egress emitted is a front of the output, ingress has a source, and a controller has an edge into its pair.
use Rattle.std.proofs.Common.{◌≡◌, ◌∙◌, ◌≤◌, ℕ, true, Some, length, sym, ap, subst, arith}
use Rattle.tuple_edge.specs.declared.node.NodeId.{NodeId}
use Rattle.tuple_edge.specs.declared.node.NodeId.TheVariants as node
use Rattle.plan_reader.specs.Nodes.{has_pair, sources_of, stage_of_node}
use Rattle.pair_control.specs.ControllerView.{ControllerView}
use Rattle.pair_machine.specs.CountLaws.{output_first}
use Rattle.pair_machine.specs.Counts.{flow_of}
use Rattle.pair_machine.specs.Machine.{State, egress_in}
use Rattle.pair_machine.specs.Output.{output}
use Rattle.pair_machine.proofs.CountLaws.{in_order}
use Rattle.pair_machine.proofs.PlanNodes.{nodes_named}
use Rattle.ingress_egress.specs.EgressView.{IsFrontOf}
use Rattle.ingress_egress.specs.IngressView.{IngressView, contents_in}
use Rattle.plan_nodes.specs.declared.state.NodeState.TheVariants as state
use Rattle.plan_nodes.proofs.Sources.{some_sources as stage_sources}
use Rattle.flux_core.specs.CoreView.{CoreView, emitted_by, inputs_of, rows_at, station}
use Rattle.flux_core.specs.Stands.{IsCore, StandsFor}
use Rattle.flux_core.proofs.Contents.{given_stands}
use Rattle.flux_core.proofs.Done.{some_state}
use Rattle.flux_core.proofs.ByName.{egress_there}

-- egress emitted the rows of as many items as it merged, whatever state the core stands for
pub emitted_so : (core : CoreView) (s : State) → StandsFor core s → emitted_by core ≡ output_first core.plan (inputs_of core) (egress_in (s.nodes node.Egress)).count
emitted_so core s stands = let e = egress_there core.plan (inputs_of core) (station core node.Egress).content (s.nodes node.Egress) (stands node.Egress (tt, tt)).content in ap rows_at e.1 ∙ e.2.emitted

-- what egress of a core emitted is a front of the output
pub emitted_front : (core : CoreView) → IsCore core → IsFrontOf (emitted_by core) (output core.plan (inputs_of core))
emitted_front core is =
    let s = some_state core is in
    subst (λ rows. IsFrontOf rows (output core.plan (inputs_of core))) (sym (emitted_so core s.0 s.1)) (sym ((in_order core.plan (inputs_of core)).front (egress_in (s.0.nodes node.Egress)).count))

module _ (core : CoreView) (is : IsCore core) where
  -- ingress has a source
  pub some_sources : (i : IngressView) → Some (state.Ingress (contents_in i)) ≡ (station core node.Ingress).content → 1 ≤ length i.producers
  some_sources i here =
      let s = some_state core is in
      let stands = given_stands core s.0 s.1 node.Ingress (tt, tt) (state.Ingress i) here in
      let many = stands.1.sources in
      let low = is.plan.version_low in
      omega (arith, many, low)

  -- the controller of a pair has an edge into it
  pub controller_edges : (stage part : ℕ) (v : ControllerView) → has_pair core.plan stage part ≡ true → Some (state.Control v) ≡ (station core (node.Control stage part)).content → 1 ≤ length v.acked
  unfolding flow_of
  controller_edges stage part v named here =
      let s = some_state core is in
      let n : NodeId = node.Control stage part in
      let has = (nodes_named core.plan (inputs_of core) n).there named in
      let stands = given_stands core s.0 s.1 n has (state.Control v) here in
      let many : length v.acked ≡ sources_of core.plan stage = stands.1.edges ∙ ap (sources_of core.plan) (ap (stage_of_node core.plan) stands.0) in
      let some = stage_sources core.plan is.plan stage has.0.0 has.0.1 in
      omega (arith, many, some)
