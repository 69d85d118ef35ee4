use Rattle.std.proofs.Common.{◌∙◌, ◌+◌, Some, ap, cond}
use Rattle.std.specs.BTreeMap.{get, is_at}
use Rattle.tuple_edge.specs.Node.{node_cmp}
use Rattle.state_text.proofs.Counting.{count_raised}
use Rattle.state_text.proofs.links.count_packet.Goals as goal

pub returns : goal.returns
returns c q =
    count_raised c.args.counts.now c.insert.new.self c.args.to
    (λ k. c.in_ok-insert.ensures.updates.0 k ∙ ap (λ n. cond (is_at (node_cmp c.args.to) k) (Some (n + 1)) (get node_cmp c.args.counts.now k)) c.count_of-before.ensures) q
