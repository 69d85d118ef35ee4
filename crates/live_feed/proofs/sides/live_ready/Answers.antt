use Rattle.live_feed.proofs.sides.live_ready.Goals as goal

pub returns : goal.returns
returns g c = c.close.ensures (g.W.Wire.told c.args.out.now) c.fork-side.ensures.written
