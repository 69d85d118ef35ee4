use Rattle.std.proofs.Common.{subst, sym}
use Rattle.std.specs.Prelude.{IsSome, IsTrue}
use Rattle.tuple_edge.specs.declared.node.NodeId.{NodeId}
use Rattle.plan_reader.specs.Nodes.{has_link}
use Rattle.pair_machine.specs.Counts.{flow_of}
use Rattle.pair_machine.specs.Links.{HasNode, link}
use Rattle.run_node.specs.Ends.{links_of}
use Rattle.run_node.specs.FirstLinks.{identity_to}
use Rattle.run_node.specs.NodeView.{NodeName}
use Rattle.run_node.proofs.FirstLinks.{leads_named}
use Rattle.run_node.proofs.draft.Draft.finish.Goals as goal

pub new-requires-clause-linked : goal.new-requires-clause-linked
new-requires-clause-linked g c κs within = λ to h.
    let linked = subst (λ (v : NodeName). (to : NodeId) → IsTrue (has_link g.N.RunNames.plan (link v.id to)) → IsSome (identity_to v.outs to)) (sym c.self.view_is) c.requires.linked in
    leads_named (links_of c.self.inside.outs.items) to (linked to h)

pub new-requires-clause-there : goal.new-requires-clause-there
new-requires-clause-there g c κs within = λ inputs. subst (λ (v : NodeName). HasNode (flow_of g.N.RunNames.plan inputs) v.id) (sym c.self.view_is) (c.requires.there inputs)
