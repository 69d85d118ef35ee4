use Rattle.std.proofs.Common.{Result, subst, MatchResult}
use mathlib.Core.List.{IsPrefix}
use Rattle.tuple_edge.specs.declared.memory.OutOfMemory.{OutOfMemory}
use Rattle.pair_machine.specs.Output.{output}
use Rattle.trade_text.specs.TradesView.{inputs_in}
use Rattle.partition_runner.specs.Ran.{emitted_in}
use Rattle.partition_runner.specs.declared.ran.Left.{Left}
use Rattle.live_feed.proofs.Runs.{has_run}
use Rattle.live_feed.proofs.end.end_of.Goals as goal

pub returns-in-Ok : goal.returns-in-Ok
returns-in-Ok g c given front =
    let plan = c.args.job.now.plan.now in
    let inputs = inputs_in c.args.job.now.trades.now in
    let e = c.finish_run.ensures in
    has_run plan inputs c.args.job.now.script.now given (emitted_in c.in-Ok.left.nodes.items) c.finish_run.result e.ended e.goes_on e.front
    (subst (λ (r : Result (Left _) OutOfMemory). MatchResult r (λ ran. IsPrefix given (emitted_in ran.nodes.items)) (λ _. IsPrefix given (output plan inputs))) c.in-Ok.is front)
