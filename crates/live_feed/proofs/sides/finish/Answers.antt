use Rattle.live_feed.proofs.Texts.{finishes}
use Rattle.live_feed.proofs.sides.finish.Goals as goal

pub returns : goal.returns
returns g c start w =
    finishes g.N.RunNames.plan g.N.FedNames.inputs g.N.RunNames.script c.args.trades.now.symbols start (g.W.Wire.told c.write_rest-written.new.wire)
    (g.W.Wire.told c.args.out.now) c.args.written c.write_rest-written.result c.args.ended.now c.rows.result.now c.args.first c.drained-drained.result
    c.is_whole-whole.result c.answer_of.result c.rows.ensures c.drained-drained.ensures c.is_whole-whole.ensures c.answer_of.ensures c.requires.ended c.write_rest-written.ensures w
