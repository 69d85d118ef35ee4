use Rattle.std.proofs.Common.{◌∙◌, ◌++◌, ap, string_bytes}
use Rattle.tuple_edge.specs.declared.node.NodeId.TheVariants as node
use Rattle.tuple_edge.specs.declared.node.Which.TheVariants as which
use Rattle.pair_machine.specs.Drain.{partition}
use Rattle.pair_machine.specs.Machine.{controller_in, replica_in}
use Rattle.flux_core.specs.CoreView.{flow_in}
use Rattle.run_journal.specs.Text.{node_name}
use Rattle.state_text.specs.StateText.{controller_text, replica_text}
use Rattle.state_text.proofs.Below.{joined_three}
use Rattle.state_text.proofs.pairs.push_pair.Goals as goal

pub returns : goal.returns
returns c s stands =
    let f = flow_in c.args.core.now in
    let p = partition c.args.stage c.args.part in
    let control = node.Control c.args.stage c.args.part in
    let a = node.Replica c.args.stage c.args.part which.A in
    let b = node.Replica c.args.stage c.args.part which.B in
    let first = controller_text (node_name control) (f.sources c.args.stage) (controller_in (s.nodes control)) in
    let second = replica_text f (node_name a) p (replica_in (s.nodes a)) in
    let third = replica_text f (node_name b) p (replica_in (s.nodes b)) in
    c.in_ok-push_member-2.ensures s stands
    ∙ ap (λ t. t ++ third) (c.in_ok-push_member.ensures s stands ∙ ap (λ t. t ++ second) (c.in_ok-push_control.ensures s stands))
    ∙ joined_three (string_bytes c.args.text.now) first second third
