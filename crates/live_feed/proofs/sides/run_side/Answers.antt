use Rattle.std.proofs.Common.{◌∙◌}
use Rattle.trade_text.specs.TradesView.{inputs_in}
use Rattle.ordered_channel.specs.Ends.{values_sent}
use Rattle.live_feed.proofs.Runs.{named}
use Rattle.live_feed.proofs.sides.run_side.Goals as goal

pub returns-clause-run : goal.returns-clause-run
returns-clause-run g c =
    named c.args.job.now.plan.now g.N.RunNames.plan (inputs_in c.args.job.now.trades.now) g.N.FedNames.inputs c.args.job.now.script.now g.N.RunNames.script _ (values_sent c.stop.new.self) c.end_of-end.result
    c.requires.job.plan_is c.requires.job.inputs_are c.requires.job.script_is (c.stop.ensures.sent ∙ c.into_sender-sender.ensures.sent) (c.end_of-end.ensures _ c.run_tapped-left.ensures.tap)
