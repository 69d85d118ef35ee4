use Rattle.std.proofs.Common.{option_map}
use Rattle.rehearse_command.specs.Courses.{rehearse_course}
use Rattle.look_top.proofs.Answering.{rehearsal_stops}
use Rattle.look_top.proofs.answered.answer_of.Goals as goal

pub returns-in-Check-clause-gives : goal.returns-in-Check-clause-gives
returns-in-Check-clause-gives g c = rw c.in-Check.is c.check_report.ensures.gives

pub returns-in-Check-clause-stops : goal.returns-in-Check-clause-stops
returns-in-Check-clause-stops g c = rw c.in-Check.is c.check_report.ensures.stops

pub returns-in-Story-clause-gives : goal.returns-in-Story-clause-gives
returns-in-Story-clause-gives g c = rw c.in-Story.is c.story_text.ensures.gives

pub returns-in-Story-clause-stops : goal.returns-in-Story-clause-stops
returns-in-Story-clause-stops g c = rw c.in-Story.is c.story_text.ensures.stops

pub returns-in-Timeline-clause-gives : goal.returns-in-Timeline-clause-gives
returns-in-Timeline-clause-gives g c = rw c.in-Timeline.is c.timeline_text.ensures.gives

pub returns-in-Timeline-clause-stops : goal.returns-in-Timeline-clause-stops
returns-in-Timeline-clause-stops g c = rw c.in-Timeline.is c.timeline_text.ensures.stops

pub returns-in-Rehearse-clause-gives : goal.returns-in-Rehearse-clause-gives
returns-in-Rehearse-clause-gives g c = rw c.in-Rehearse.is c.rehearse_report.ensures.comes

pub returns-in-Rehearse-clause-stops : goal.returns-in-Rehearse-clause-stops
returns-in-Rehearse-clause-stops g c =
    rw c.in-Rehearse.is (rehearsal_stops (g.F.Files.told c.args.files.now) (g.F.Files.told c.rehearse_report.new.files)
    (rehearse_course c.in-Rehearse.plan.now c.in-Rehearse.trades.now c.in-Rehearse.script.now (option_map (λ n. n.now) c.in-Rehearse.cash)) (option_map (λ n. n.now) c.in-Rehearse.picture)
    c.rehearse_report.result c.rehearse_report.ensures.stops)

pub returns-in-Trace-clause-gives : goal.returns-in-Trace-clause-gives
returns-in-Trace-clause-gives g c = rw c.in-Trace.is (rw c.from-line.ensures at c.trace_report.ensures.gives)

pub returns-in-Trace-clause-stops : goal.returns-in-Trace-clause-stops
returns-in-Trace-clause-stops g c = rw c.in-Trace.is (rw c.from-line.ensures at c.trace_report.ensures.stops)

pub returns-in-Why-clause-gives : goal.returns-in-Why-clause-gives
returns-in-Why-clause-gives g c = rw c.in-Why.is (rw c.from-number.ensures at c.why_report.ensures.gives)

pub returns-in-Why-clause-stops : goal.returns-in-Why-clause-stops
returns-in-Why-clause-stops g c = rw c.in-Why.is (rw c.from-number.ensures at c.why_report.ensures.stops)

pub returns-in-Sift-clause-gives : goal.returns-in-Sift-clause-gives
returns-in-Sift-clause-gives g c = rw c.in-Sift.is c.sift_report.ensures.gives

pub returns-in-Sift-clause-stops : goal.returns-in-Sift-clause-stops
returns-in-Sift-clause-stops g c = rw c.in-Sift.is c.sift_report.ensures.stops

pub returns-in-Sql-clause-gives : goal.returns-in-Sql-clause-gives
returns-in-Sql-clause-gives g c = rw c.in-Sql.is c.sql_report.ensures.gives

pub returns-in-Sql-clause-stops : goal.returns-in-Sql-clause-stops
returns-in-Sql-clause-stops g c = rw c.in-Sql.is c.sql_report.ensures.stops
