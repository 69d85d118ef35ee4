use Rattle.std.proofs.Common.{◌∙◌, ◌++◌, ap, option_map, string_bytes}
use Rattle.replica_node.specs.Phases.{count_in, inc_in, served_in}
use Rattle.state_text.specs.Shown.{in_edges_shown, move_shown, out_edges_shown}
use Rattle.state_text.specs.StateText.{running_line}
use Rattle.state_text.proofs.Below.{joined_four}
use Rattle.state_text.proofs.NodeLines.{running_read}
use Rattle.state_text.proofs.replicas.push_parts.Goals as goal

pub returns : goal.returns
returns c =
    let old = string_bytes c.args.text.now in
    let name = c.args.name.now in
    let v = c.args.replica.now.phase in
    let line = running_line name (inc_in v) c.args.producer.now.term c.args.producer.now.leads (served_in v) (count_in v) in
    let into = in_edges_shown name c.args.consumer.now in
    let out = out_edges_shown name c.args.producer.now in
    let move = move_shown name (option_map (λ m. m.now) c.mover.result) in
    c.in_ok-push_move.ensures
    ∙ ap (λ t. t ++ move) (c.in_ok-push_out_edges.ensures ∙ ap (λ t. t ++ out) (c.in_ok-push_in_edges.ensures ∙ ap (λ t. t ++ into) c.in_ok-push_counts.ensures))
    ∙ joined_four old line into out move
    ∙ ap (λ t. old ++ t) (running_read name v c.args.consumer.now c.args.producer.now (option_map (λ m. m.now) c.mover.result) c.requires.takes c.requires.sends c.mover.ensures.value)
