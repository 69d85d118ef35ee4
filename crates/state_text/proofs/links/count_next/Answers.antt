use Rattle.std.proofs.Common.{◌∙◌, arith, sym}
use Rattle.state_text.proofs.Counting.{counted_next, counts_most}
use Rattle.state_text.proofs.links.count_next.Goals as goal

pub returns : goal.returns
returns c = counted_next c.args.log.now.packets c.args.counts.now c.count_packet.new.counts c.args.nth (c.in-Some.to, c.in-Some._body) c.requires.counted (sym c.get.ensures ∙ c.in-Some.is) c.in_ok-count_packet.ensures

pub count_packet-requires : goal.count_packet-requires
count_packet-requires c = omega (arith, c.requires.fits, counts_most c.args.log.now.packets c.args.counts.now c.args.nth c.in-Some.to c.requires.counted c.requires.next)
