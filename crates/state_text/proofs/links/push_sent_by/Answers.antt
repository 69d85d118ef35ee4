use Rattle.std.proofs.Common.{◌∙◌, ◌++◌, ap, string_bytes}
use Rattle.state_text.proofs.CoreLines.{counted_lines}
use Rattle.state_text.proofs.links.push_sent_by.Goals as goal

pub returns : goal.returns
returns c =
    c.in_ok-push_counted.ensures
    ∙ ap (λ t. string_bytes c.args.text.now ++ t)
    (counted_lines c.args.core.now c.args.from c.in_ok-counts.counts c.sent_by.result.now.packets c.args.nodes.now c.sent_by.ensures c.in_ok-counts.ensures)
