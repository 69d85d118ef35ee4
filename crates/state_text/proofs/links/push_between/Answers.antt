use Rattle.std.proofs.Common.{string_bytes}
use Rattle.state_text.specs.Counted.{links_shown}
use Rattle.state_text.proofs.Below.{one_element}
use Rattle.state_text.proofs.links.push_between.Goals as goal

pub loop-from-preserved : goal.loop-from-preserved
loop-from-preserved c =
    one_element (links_shown c.args.core.now c.args.nodes.now) c.args.nodes.now c.loop-from.from-index _ (string_bytes c.args.text.now) (string_bytes c.loop-from.text) (string_bytes c.push_sent_by.new.text)
    c.loop-from-test.true c.in_ok-push_sent_by.ensures c.loop-from.invariant
