-- A node while its links are made.
use Rattle.std.specs.Prelude.{◌≡◌, true, List, IsSome}
use Rattle.tuple_edge.specs.declared.node.NodeId.{NodeId}
use Rattle.plan_reader.specs.Nodes.{has_link}
use Rattle.plan_reader.specs.PlanView.{PlanView}
use Rattle.pair_machine.specs.Links.{link}
use Rattle.pair_machine.specs.Lists.{Each}
use Rattle.run_node.specs.FirstLinks.{identity_to}
use Rattle.run_node.specs.NodeView.{NodeName}

-- a node has a link to another one, where the plan has it
abbrev pub LeadsTo : PlanView → NodeName → NodeId → Type 0
LeadsTo plan m to = has_link plan (link m.id to) ≡ true → IsSome (identity_to m.outs to)

-- it has its links to all of these
abbrev pub LeadsToAll : PlanView → NodeName → List NodeId → Type 0
LeadsToAll plan m ids = Each (LeadsTo plan m) ids

-- a node's later name: it may have more links
pub record Grows (before after : NodeName) : Type 0 where
  pub id : after.id ≡ before.id
  pub tapped : after.tapped ≡ before.tapped
  pub outs : (n : NodeId) → IsSome (identity_to before.outs n) → identity_to after.outs n ≡ identity_to before.outs n
