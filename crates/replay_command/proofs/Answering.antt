-- A way to an answer that reads nothing more, behind the readings before it.
use Rattle.std.proofs.Common.{ℕ, ◌≡◌, [], Ok, Err, refl}
use Rattle.std.specs.Prelude.{IfErr, IfOk, Result}
use Rattle.command_course.specs.Course.{Came, Course, Way, Writes}
use Rattle.command_course.specs.Steps.{GivesBy, HasReadCause, OnlyReads, StopsBy}
use Rattle.command_course.specs.declared.stop.Stop.{Stop}
use Rattle.command_course.specs.declared.stop.Stop.TheVariants as stop
use Rattle.command_course.specs.Answers.{AnswerView, answer_of}
use Rattle.command_course.specs.declared.answer.Answer.{Answer}
use Rattle.command_course.proofs.Courses.{came_is, reads_judged}
use Rattle.flux_outside.specs.Told.{FilesTold}
use Rattle.replay_command.specs.Ends.{StopsIn}
use Rattle.replay_command.proofs.Ways.{err_here}

-- a way that reads nothing more gives its answer, or stops
module _ (old new : FilesTold) (way between : Way AnswerView) (came : (next : AnswerView → Course) → Came old new (way next) (between next)) where
  pub gives_here : (result : Result Answer Stop) → IfOk result (λ answer. (next : AnswerView → Course) → between next ≡ next (answer_of answer))
      → IfOk result (λ answer. GivesBy old new way (answer_of answer))
  gives_here (Ok answer) is = λ next. came_is old new (way next) (between next) (next (answer_of answer)) (came next) (is next)
  gives_here (Err why) is = tt

  pub stops_here : (result : Result Answer Stop) → IfErr result (λ why. (next : AnswerView → Course) → StopsIn (between next) why) → IfErr result (λ why. StopsBy old new way why)
  stops_here (Ok answer) is = tt
  stops_here (Err why) is = λ next. err_here old new (way next) (between next) (Err why) (came next) (is next)

-- a stop behind all readings is none of a file
no_read : (between : Way AnswerView) (why : Stop) → ((next : AnswerView → Course) → StopsIn (between next) why) → (faults : ℕ) → HasReadCause faults faults why
no_read between stop.Usage is faults = absurd (is (λ answer. Writes []))
no_read between (stop.Refused line) is faults = refl
no_read between (stop.CannotRead line) is faults = absurd (is (λ answer. Writes []))
no_read between stop.CannotWrite is faults = is (λ answer. Writes [])
no_read between (stop.PairLost stage part line) is faults = is (λ answer. Writes [])
no_read between stop.OutOfMemory is faults = tt

none_read : {B : Type 0} (between : Way AnswerView) (result : Result B Stop) → IfErr result (λ why. (next : AnswerView → Course) → StopsIn (between next) why)
    → IfErr result (λ why. (faults : ℕ) → HasReadCause faults faults why)
none_read between (Ok answer) is = tt
none_read between (Err why) is = no_read between why is

pub reads_answered : {A B : Type 0} (old new : FilesTold) (value : A) (between : Way AnswerView) (result : Result B Stop) → OnlyReads old new (Ok value)
    → IfErr result (λ why. (next : AnswerView → Course) → StopsIn (between next) why) → OnlyReads old new result
reads_answered old new value between result reads is = reads_judged old new value result reads (none_read between result is)
