use Rattle.std.proofs.Common.{[]}
use Rattle.command_course.specs.Feeds.{fed}
use Rattle.command_course.proofs.Feeding.{err_short_here}
use Rattle.command_course.proofs.feed.movements_at.Goals as goal

pub returns-in-None-clause-stops : goal.returns-in-None-clause-stops
returns-in-None-clause-stops g c =
    rw c.in-None.is (err_short_here (g.F.Files.told c.args.files.now) (fed c.args.plan c.args.trades []) c.without_movements.result c.without_movements.ensures.want)
