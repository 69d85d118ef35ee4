use Rattle.run_command.proofs.RunEnds.{summed_up}
use Rattle.run_command.proofs.ending.text_of.Goals as goal

pub returns-in-true-Whole : goal.returns-in-true-Whole
returns-in-true-Whole c =
    summed_up c.args.feed.now c.args.is_summary c.args.drained c.args.rows.now c.write_summary.result c.in-true-Whole.is-0 c.in-true-Whole.is-1 c.write_summary.ensures
