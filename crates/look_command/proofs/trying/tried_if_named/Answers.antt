use Rattle.std.proofs.Common.{None, Some}
use Rattle.command_course.proofs.Courses.{err_passed}
use Rattle.look_command.proofs.Tries.{unnamed}
use Rattle.look_command.proofs.trying.tried_if_named.Goals as goal

pub returns-in-None-clause-gives : goal.returns-in-None-clause-gives
returns-in-None-clause-gives g c = rw c.in-None.is (unnamed (g.F.Files.told c.args.files.now))

pub returns-in_ok-tried-in-Some-clause-gives : goal.returns-in_ok-tried-in-Some-clause-gives
returns-in_ok-tried-in-Some-clause-gives g c = λ next. rw c.in-Some.is (c.in_ok-tried-in-Some.ensures.gives (λ said. next (Some said)))

pub returns-in_err-tried-in-Some-clause-stops : goal.returns-in_err-tried-in-Some-clause-stops
returns-in_err-tried-in-Some-clause-stops g c =
    err_passed _ _ c.from_residual.result c.from_residual.ensures.1 (λ next. rw c.in-Some.is (c.in_err-tried-in-Some.ensures.stops (λ said. next (Some said))))
