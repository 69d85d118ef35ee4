use Rattle.reach_finder.proofs.Passed.{passed_early, passed_late, passed_marks}
use Rattle.reach_finder.proofs.stages.passed.Goals as goal

pub returns-clause-early : goal.returns-clause-early
returns-clause-early c = passed_early c.args.stage.now c.args.early.now c.in_ok-next.next.early.items c.in_ok-next.ensures.early

pub returns-clause-late : goal.returns-clause-late
returns-clause-late c = passed_late c.args.stage.now c.args.early.now c.args.late.now c.in_ok-next.next.late.items c.in_ok-next.ensures.late

pub returns-clause-marks : goal.returns-clause-marks
returns-clause-marks c =
    passed_marks c.args.stage.now c.args.early.now c.args.late.now c.in_ok-next.next.early.items c.in_ok-next.next.late.items c.requires.stage c.in_ok-next.ensures.early c.in_ok-next.ensures.late
