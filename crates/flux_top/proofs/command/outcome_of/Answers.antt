use Rattle.std.proofs.Common.{ap, refl, subst, sym}
use Rattle.command_course.specs.Course.{Between, Writes}
use Rattle.command_course.specs.Steps.{StopsOf}
use Rattle.command_line.specs.Views.{options_in, text_in}
use Rattle.replay_command.specs.Courses.{replay_course}
use Rattle.run_command.specs.Courses.{run_course}
use Rattle.trade_maker.specs.MadeText.{made_text}
use Rattle.flux_top.proofs.Courses.{came_here, err_passed}
use Rattle.flux_top.proofs.Endings.{ok_run_ends, text_ends}
use Rattle.flux_top.proofs.command.outcome_of.Goals as goal

pub returns-in_ok-text-in-Make-clause-comes : goal.returns-in_ok-text-in-Make-clause-comes
returns-in_ok-text-in-Make-clause-comes g c =
    let told = g.F.Files.told c.args.files.now in
    let made = Writes (made_text c.in-Make.start c.in-Make.count) in
    rw c.in-Make.is (text_ends told told made c.in_ok-text-in-Make.text c.alone-in-Make.result c.alone-in-Make.ensures.text c.alone-in-Make.ensures.journal
    c.alone-in-Make.ensures.whole (came_here told made (Writes c.in_ok-text-in-Make.text.items) (ap Writes (sym c.in_ok-text-in-Make.ensures.text))))

pub returns-in_err-text-in-Make-clause-stops : goal.returns-in_err-text-in-Make-clause-stops
returns-in_err-text-in-Make-clause-stops g c =
    let told = g.F.Files.told c.args.files.now in
    let made = Writes (made_text c.in-Make.start c.in-Make.count) in
    rw c.in-Make.is (err_passed (StopsOf told told made) _ c.from_residual-in_err-text-in-Make.result c.from_residual-in_err-text-in-Make.ensures.1
    (subst (StopsOf told told made) (sym c.in_err-text-in-Make.ensures.want) (Between made (came_here told made made refl))))

pub returns-in-Run-clause-comes : goal.returns-in-Run-clause-comes
returns-in-Run-clause-comes g c =
    rw c.in-Run.is (ok_run_ends (g.F.Files.told c.args.files.now) (g.F.Files.told c.run_outcome.new.files)
    (run_course c.in-Run.plan.now c.in-Run.trades.now (options_in c.in-Run.options)) c.run_outcome.result c.run_outcome.ensures.comes)

pub returns-in-Run-clause-stops : goal.returns-in-Run-clause-stops
returns-in-Run-clause-stops g c = rw c.in-Run.is c.run_outcome.ensures.stops

pub returns-in_ok-text-in-Replay-clause-comes : goal.returns-in_ok-text-in-Replay-clause-comes
returns-in_ok-text-in-Replay-clause-comes g c =
    let course = replay_course c.in-Replay.plan.now c.in-Replay.trades.now c.in-Replay.events.now (text_in c.in-Replay.cash) in
    rw c.in-Replay.is (text_ends (g.F.Files.told c.args.files.now) (g.F.Files.told c.replay_text.new.files) course c.in_ok-text-in-Replay.text c.alone-in-Replay.result
    c.alone-in-Replay.ensures.text c.alone-in-Replay.ensures.journal c.alone-in-Replay.ensures.whole c.in_ok-text-in-Replay.ensures.comes)

pub returns-in_err-text-in-Replay-clause-stops : goal.returns-in_err-text-in-Replay-clause-stops
returns-in_err-text-in-Replay-clause-stops g c =
    let course = replay_course c.in-Replay.plan.now c.in-Replay.trades.now c.in-Replay.events.now (text_in c.in-Replay.cash) in
    rw c.in-Replay.is (err_passed (StopsOf (g.F.Files.told c.args.files.now) (g.F.Files.told c.replay_text.new.files) course) _ c.from_residual-in_err-text-in-Replay.result
    c.from_residual-in_err-text-in-Replay.ensures.1 c.in_err-text-in-Replay.ensures.stops)
