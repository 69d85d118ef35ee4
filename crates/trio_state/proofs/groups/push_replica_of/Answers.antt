use Rattle.std.proofs.Common.{◌∙◌, ◌++◌, ap, string_bytes}
use Rattle.trio_machine.specs.declared.node.TrioNode.TheVariants as node
use Rattle.trio_core.specs.CoreView.{inputs_of}
use Rattle.trio_state.proofs.GroupLines.{replica_lines}
use Rattle.trio_state.proofs.groups.push_replica_of.Goals as goal

pub returns : goal.returns
returns c s stands =
    c.in_ok-push_replica.ensures
    ∙ ap (λ t. string_bytes c.args.text.now ++ t)
    (replica_lines c.args.core.now.plan (inputs_of c.args.core.now) c.replica.result.now (node.Replica c.args.stage c.args.part c.args.copy) s c.replica.ensures.named (c.replica.ensures.stands s stands))
