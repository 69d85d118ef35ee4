use Rattle.std.proofs.lemmas.Result.{IfOk-weaker}
use Rattle.trade_text.specs.TradesView.{inputs_in}
use Rattle.partition_runner.specs.Ran.{IsLegalRun, IsToldOf}
use Rattle.partition_runner.proofs.Kept.{legal_told}
use Rattle.partition_runner.proofs.runs.run_over.Goals as goal

pub returns : goal.returns
returns g c =
    let plan = c.args.plan.now in
    let inputs = inputs_in c.args.trades.now in
    let script = c.args.script.now in
    let left = c.in_ok-left.left in
    IfOk-weaker c.told.result (IsToldOf left) (IsLegalRun plan inputs script) (λ ran told. legal_told plan inputs script left ran c.in_ok-left.ensures told) c.told.ensures
