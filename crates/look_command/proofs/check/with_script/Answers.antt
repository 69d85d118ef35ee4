use Rattle.std.proofs.Common.{option_map}
use Rattle.command_course.specs.Answers.{AnswerView, answer_of}
use Rattle.look_command.specs.Trying.{named_of, tried_of}
use Rattle.look_command.specs.Check.{given, judgement, tries_script}
use Rattle.look_command.proofs.Ways.{err_short_by, ok_gives_value}
use Rattle.command_course.proofs.Courses.{err_passed}
use Rattle.look_command.proofs.check.with_script.Goals as goal

pub returns-clause-gives : goal.returns-clause-gives
returns-clause-gives g c =
    ok_gives_value answer_of (g.F.Files.told c.args.files.now) (g.F.Files.told c.tried_script.new.files)
    (tries_script (tried_of c.args.plan) (option_map (λ n. n.now) c.args.script)) (λ orders. judgement c.args.json (given (tried_of c.args.plan) (named_of c.args.trades) (named_of c.args.cash) orders)) (named_of c.in_ok-script.script) c.all_judged.result
    c.in_ok-script.ensures.gives c.all_judged.ensures.answer

pub returns-clause-stops : goal.returns-clause-stops
returns-clause-stops g c =
    err_short_by {B = AnswerView} (g.F.Files.told c.args.files.now) (g.F.Files.told c.tried_script.new.files)
    (tries_script (tried_of c.args.plan) (option_map (λ n. n.now) c.args.script)) (λ orders next. next (judgement c.args.json (given (tried_of c.args.plan) (named_of c.args.trades) (named_of c.args.cash) orders))) (named_of c.in_ok-script.script) c.all_judged.result
    c.in_ok-script.ensures.gives c.all_judged.ensures.want

pub returns-in_err-script-clause-stops : goal.returns-in_err-script-clause-stops
returns-in_err-script-clause-stops g c =
    err_passed _ _ c.from_residual.result c.from_residual.ensures.1 (λ next.
    c.in_err-script.ensures.stops (λ orders. next (judgement c.args.json (given (tried_of c.args.plan) (named_of c.args.trades) (named_of c.args.cash) orders))))
