use Rattle.std.proofs.Common.{◌≡◌, true, subst, sym}
use Rattle.std.specs.Prelude.{is_some}
use Rattle.run_node.specs.Ends.{links_of}
use Rattle.run_node.specs.FirstLinks.{identity_to}
use Rattle.run_node.specs.NodeView.{NodeName, out_names}
use Rattle.run_node.proofs.FirstLinks.{first_some}
use Rattle.run_node.proofs.draft.Draft.leads_to.Goals as goal

pub returns-in-Some : goal.returns-in-Some
returns-in-Some g c =
    let there = subst (λ l. is_some (identity_to (out_names (links_of l)) c.args.to) ≡ true) c.deref.ensures.value (first_some c.deref.result.now c.args.to c.in-Some._place c.in-Some.ensures) in
    sym (subst (λ (v : NodeName). is_some (identity_to v.outs c.args.to) ≡ true) c.self.view_is there)
