use Rattle.std.proofs.Common.{◌∙◌, ◌++◌, ap, string_bytes}
use Rattle.trio_machine.specs.declared.node.TrioNode.TheVariants as node
use Rattle.trio_core.specs.CoreView.{flow_in}
use Rattle.trio_state.proofs.GroupLines.{control_lines}
use Rattle.trio_state.proofs.groups.push_control_of.Goals as goal

pub returns : goal.returns
returns c s stands =
    c.in_ok-push_control.ensures
    ∙ ap (λ t. string_bytes c.args.text.now ++ t)
    (control_lines (flow_in c.args.core.now) c.control.result.now (node.Control c.args.stage c.args.part) s c.control.ensures.named (c.control.ensures.stands s stands))
