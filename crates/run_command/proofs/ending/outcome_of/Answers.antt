use Rattle.run_command.proofs.RunEnds.{run_ends}
use Rattle.run_command.proofs.ending.outcome_of.Goals as goal

pub returns : goal.returns
returns c = λ run events fed summary ended saved.
    run_ends run c.args.drained events c.args.rows.now _ ended (c.in_ok-text.ensures run fed summary) saved
