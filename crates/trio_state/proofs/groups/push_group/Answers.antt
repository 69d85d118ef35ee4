use Rattle.std.proofs.Common.{◌∙◌, ◌++◌, ap, string_bytes}
use Rattle.trio_machine.specs.declared.node.TrioNode.TheVariants as node
use Rattle.trio_state.specs.GroupsText.{line_of_control, line_of_replica}
use Rattle.trio_state.proofs.GroupLines.{joined_four}
use Rattle.trio_state.proofs.groups.push_group.Goals as goal

pub returns : goal.returns
returns c s stands =
    let first = line_of_control s (node.Control c.args.stage c.args.part) in
    let zero_line = line_of_replica s (node.Replica c.args.stage c.args.part 0) in
    let one_line = line_of_replica s (node.Replica c.args.stage c.args.part 1) in
    let two_line = line_of_replica s (node.Replica c.args.stage c.args.part 2) in
    c.in_ok-push_replica_of-3.ensures s stands
    ∙ ap (λ t. t ++ two_line)
    (c.in_ok-push_replica_of-2.ensures s stands
    ∙ ap (λ t. t ++ one_line) (c.in_ok-push_replica_of.ensures s stands ∙ ap (λ t. t ++ zero_line) (c.in_ok-push_control_of.ensures s stands)))
    ∙ joined_four (string_bytes c.args.text.now) first zero_line one_line two_line
