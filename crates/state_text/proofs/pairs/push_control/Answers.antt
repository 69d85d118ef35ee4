use Rattle.std.proofs.Common.{◌∙◌, ◌++◌, ap, string_bytes}
use Rattle.tuple_edge.specs.declared.node.NodeId.TheVariants as node
use Rattle.pair_control.specs.ControllerView.{numbers_of}
use Rattle.run_journal.specs.Text.{node_name}
use Rattle.state_text.specs.StateText.{controller_text}
use Rattle.state_text.proofs.CoreLines.{controller_edges, controller_lines}
use Rattle.state_text.proofs.pairs.push_control.Goals as goal

pub returns : goal.returns
returns c s stands =
    c.in_ok-push_controller.ensures
    ∙ ap (λ name. string_bytes c.args.text.now ++ controller_text name c.args.edges (numbers_of c.control.result.now)) (c.deref.ensures ∙ c.in_ok-name.ensures)
    ∙ ap (λ t. string_bytes c.args.text.now ++ t)
    (controller_lines c.args.core.now c.known.ensures c.args.stage c.args.part c.requires.there c.control.result.now (node_name (node.Control c.args.stage c.args.part)) c.args.edges c.control.ensures.value
    (controller_edges c.args.core.now c.known.ensures c.args.stage c.args.part c.requires.there c.control.result.now c.args.edges c.control.ensures.value c.requires.edges) s stands)

pub push_controller-requires : goal.push_controller-requires
push_controller-requires c =
    controller_edges c.args.core.now c.known.ensures c.args.stage c.args.part c.requires.there c.control.result.now c.args.edges c.control.ensures.value c.requires.edges
