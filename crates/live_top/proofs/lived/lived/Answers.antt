use Rattle.command_course.specs.Feeds.{feed_of}
use Rattle.live_top.proofs.Endings.{lost_stops}
use Rattle.live_top.proofs.lived.lived.Goals as goal

pub returns-in-Lost-clause-stops : goal.returns-in-Lost-clause-stops
returns-in-Lost-clause-stops g c =
    lost_stops (feed_of c.args.given.now.feed) c.args.given.now.script (g.S.Sink.told c.args.out.now)
    (g.S.Sink.told c.answer.new.out) c.in-Lost.stage c.in-Lost.part c.lost.result c.lost.ensures
    (rw c.in-Lost.is at c.answer.ensures)
