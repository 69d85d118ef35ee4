use Rattle.std.proofs.Common.{◌≡◌, ◌∙◌, ◌++◌, ap, string_bytes, subst, sym, true}
use Rattle.std.specs.Prelude.{All}
use Rattle.pair_machine.specs.Counts.{flow_of}
use Rattle.flux_core.specs.CoreView.{inputs_of}
use Rattle.plan_reader.specs.Nodes.{has_node}
use Rattle.plan_nodes.specs.NodeOrder.{nodes_in}
use Rattle.state_text.proofs.CoreLines.{link_lines}
use Rattle.state_text.proofs.links.push_links.Goals as goal

pub returns : goal.returns
returns c s stands =
    let rows = inputs_of c.args.core.now in
    c.in_ok-push_between.ensures
    ∙ ap (λ t. string_bytes c.args.text.now ++ t)
    (link_lines c.args.core.now s stands c.deref.result.now (c.deref.ensures.value ∙ c.in_ok-nodes.ensures.machine rows ∙ ap (λ plan. nodes_in (flow_of plan rows)) c.plan.ensures)
    (subst (λ plan. All (λ n. has_node plan n ≡ true) c.deref.result.now) c.plan.ensures (subst (All (λ n. has_node c.plan.result.now n ≡ true)) (sym c.deref.ensures.value) c.in_ok-nodes.ensures.there)))
