use Rattle.std.proofs.Common.{string_bytes}
use Rattle.pair_machine.specs.Links.{link}
use Rattle.state_text.specs.Counted.{count_in}
use Rattle.state_text.specs.StateText.{sent_line}
use Rattle.state_text.proofs.Below.{one_element}
use Rattle.state_text.proofs.links.push_counted.Goals as goal

pub loop-to-preserved : goal.loop-to-preserved
loop-to-preserved c =
    one_element (λ to. sent_line (link c.args.from to) (count_in c.args.counts.now to)) c.args.nodes.now c.loop-to.to-index _ (string_bytes c.args.text.now) (string_bytes c.loop-to.text)
    (string_bytes c.push_link.new.text) c.loop-to-test.true c.in_ok-push_link.ensures c.loop-to.invariant
