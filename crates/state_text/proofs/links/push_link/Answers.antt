use Rattle.std.proofs.Common.{◌∙◌, ◌++◌, ap, string_bytes, sym}
use Rattle.pair_machine.specs.Links.{link}
use Rattle.state_text.specs.StateText.{sent_line}
use Rattle.state_text.proofs.Counting.{sent_some}
use Rattle.state_text.proofs.links.push_link.Goals as goal

pub returns : goal.returns
returns c =
    c.in_ok-push_packets.ensures
    ∙ ap (λ t. string_bytes c.args.text.now ++ t) (sym (sent_some (link c.args.from c.args.to) c.count_of-packets.result (λ e. c.if-packets-eq0.false e)))
    ∙ ap (λ n. string_bytes c.args.text.now ++ sent_line (link c.args.from c.args.to) n) c.count_of-packets.ensures
