use Rattle.command_course.specs.Answers.{AnswerView, answer_of}
use Rattle.command_course.specs.Course.{Way}
use Rattle.trade_sift.specs.Sifted.{Parts}
use Rattle.sift_command.specs.Courses.{parts_way, sift_answer}
use Rattle.sift_command.proofs.Ways.{err_short_by, ok_gives_value}
use Rattle.command_course.proofs.Courses.{err_passed}
use Rattle.sift_command.proofs.sift.sift_report.Goals as goal

pub returns-clause-gives : goal.returns-clause-gives
returns-clause-gives g c =
    ok_gives_value answer_of (g.F.Files.told c.args.files.now) (g.F.Files.told c.sift_parts.new.files) (parts_way c.args.trades.now) (sift_answer c.args.rejects.now) c.in_ok-parts.parts c.answered.result
    c.in_ok-parts.ensures.gives c.answered.ensures.answer

pub returns-clause-stops : goal.returns-clause-stops
returns-clause-stops g c =
    let onward : Parts → Way AnswerView = λ parts next. next (sift_answer c.args.rejects.now parts) in
    err_short_by (g.F.Files.told c.args.files.now) (g.F.Files.told c.sift_parts.new.files) (parts_way c.args.trades.now) onward c.in_ok-parts.parts c.answered.result c.in_ok-parts.ensures.gives c.answered.ensures.want

pub returns-in_err-parts-clause-stops : goal.returns-in_err-parts-clause-stops
returns-in_err-parts-clause-stops g c =
    err_passed _ _ c.from_residual.result c.from_residual.ensures.1 (λ next. c.in_err-parts.ensures.stops (λ parts. next (sift_answer c.args.rejects.now parts)))
