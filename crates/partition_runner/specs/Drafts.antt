-- The nodes of a plan with no link yet.
use Rattle.std.specs.Prelude.{true, false, List, [], ◌∷◌, ◌++◌}
use Rattle.tuple_edge.specs.declared.node.NodeId.{NodeId}
use Rattle.tuple_edge.specs.declared.node.NodeId.TheVariants as node
use Rattle.plan_reader.specs.PlanView.{PlanView}
use Rattle.plan_nodes.specs.NodeOrder.{nodes_before_egress}
use Rattle.run_node.specs.NodeView.{NodeName}

-- nodes of these names with no link and no tap
abbrev pub unlinked : List NodeId → List NodeName
unlinked [] = []
unlinked (n ∷ ns) = record { id = n; ins = []; outs = []; tapped = false } ∷ unlinked ns

-- all nodes of a plan with no link; egress has a tap
abbrev pub all_unlinked : PlanView → List NodeName
all_unlinked plan = unlinked (nodes_before_egress plan) ++ record { id = node.Egress; ins = []; outs = []; tapped = true } ∷ []
