use Rattle.trade_stream.proofs.Pushing.{fronts, leaves_front}
use Rattle.trade_stream.proofs.parsing.Parsing.leave_front.Goals as goal

pub returns-in_ok-begin_with-in-Start-clause-leaves : goal.returns-in_ok-begin_with-in-Start-clause-leaves
returns-in_ok-begin_with-in-Start-clause-leaves c =
    let begun = c.in_ok-begin_with-in-Start.ensures in
    leaves_front c.args.self.now c.begin_with.new.self c.requires (fronts c.args.self.now.stage c.in-Start.is) begun.field begun.nothing begun.in_field
