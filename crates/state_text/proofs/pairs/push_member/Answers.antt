use Rattle.std.proofs.Common.{◌∙◌, ◌++◌, ap, string_bytes}
use Rattle.tuple_edge.specs.declared.node.NodeId.TheVariants as node
use Rattle.run_journal.specs.Text.{node_name}
use Rattle.state_text.specs.Shown.{replica_shown}
use Rattle.state_text.proofs.CoreLines.{replica_edges, replica_lines}
use Rattle.state_text.proofs.pairs.push_member.Goals as goal

pub returns : goal.returns
returns c s stands =
    c.in_ok-push_replica.ensures.lines
    ∙ ap (λ name. string_bytes c.args.text.now ++ replica_shown name c.replica.result.now) (c.deref.ensures ∙ c.in_ok-name.ensures)
    ∙ ap (λ t. string_bytes c.args.text.now ++ t)
    (replica_lines c.args.core.now c.known.ensures c.args.stage c.args.part c.requires.there c.args.which c.replica.result.now (node_name (node.Replica c.args.stage c.args.part c.args.which)) c.replica.ensures
    c.push_replica.ensures.moving s stands)

pub push_replica-requires : goal.push_replica-requires
push_replica-requires c = replica_edges c.args.core.now c.known.ensures c.args.stage c.args.part c.requires.there c.args.which c.replica.result.now c.args.edges c.replica.ensures c.requires.edges
