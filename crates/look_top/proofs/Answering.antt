-- The answer that words come to, or why they come to none, with the own name in what is said of it.
use Rattle.std.proofs.Common.{ℕ, ◌≡◌, ◌∙◌, List, [], ap, option_map, sym, subst, Option, Some, None, Ok, Err, ⊎_elim, string_bytes}
use Rattle.std.specs.Prelude.{IfErr, IfSome, Result}
use Rattle.command_course.specs.Course.{AtReading, Between, Course, Refuses, StoppedShort, Writes}
use Rattle.command_course.specs.Steps.{IsUnread, StopsBy, StopsOf}
use Rattle.command_course.specs.declared.stop.Stop.{Stop}
use Rattle.command_course.specs.declared.stop.Stop.TheVariants as stop
use Rattle.look_words.specs.Forms.{Request, form}
use Rattle.flux_outside.specs.Told.{FilesTold}
use Rattle.command_course.specs.Answers.{AnswerView}
use Rattle.command_course.specs.declared.answer.Answer.{Answer}
use Rattle.flux_top.specs.Stops.{IsOwn}
pub use Rattle.flux_top.proofs.Owning.{own_reads}
use Rattle.look_top.specs.Asked.{Rehearses, LookTask, asked, task_of, way_in}
use Rattle.look_top.specs.Clauses.{StopsShort}
use Rattle.look_top.specs.Lines.{name, own_line}
use Rattle.look_top.specs.Stops.{StopsBefore, UnreadBy}

-- the task that words with a form ask for
pub asked_of : (words : List (List ℕ)) (request : Request) → form words ≡ Some request → asked words ≡ Some (task_of request)
unfolding asked
asked_of words request is = ap (option_map task_of) is

-- words without a form ask for none
pub asked_none : (words : List (List ℕ)) → form words ≡ None → asked words ≡ None
unfolding asked
asked_none words is = ap (option_map task_of) is

-- a course that reads nothing
nothing_more : AnswerView → Course
nothing_more a = Writes []

module _ (old new : FilesTold) (words : List (List ℕ)) (task : LookTask) (is : asked words ≡ Some task) where
  short : ((next : AnswerView → Course) → StoppedShort old new (way_in task next)) → StopsShort old new words
  short stopped = subst (λ t. IfSome t (λ x. (next : AnswerView → Course) → StoppedShort old new (way_in x next))) (sym is) stopped

  -- whatever comes next, it is the reading of the same file that a line tells of
  unread_by : (line said : List ℕ) → ((next : AnswerView → Course) → IsUnread old new (way_in task next) line) → said ≡ own_line line → UnreadBy old new words said
  unread_by line said stops said_is =
      let first = stops nothing_more in
      record {
        file = first.name;
        comes = record { course = task; is_asked = is; fact = λ next. subst (IsUnread old new (way_in task next)) first.line_is (stops next) };
        said_is = said_is ∙ ap own_line first.line_is;
      }

  pub own_stops : (why own : Stop) → StopsBy old new (way_in task) why → IsOwn name why own → StopsBefore old new words own
  own_stops stop.Usage own stops is_own = absurd (stops nothing_more)
  own_stops (stop.Refused line) own stops is_own = ⊎_elim
      (λ want. subst (StopsBefore old new words) (sym want) (short (λ next. Between (Refuses (string_bytes line)) (stops next))))
      (λ says. subst (StopsBefore old new words) (sym says.1)
      (record { line = string_bytes line; comes = record { course = task; is_asked = is; fact = stops }; said_is = says.2 })) is_own
  own_stops (stop.CannotRead line) own stops is_own = ⊎_elim
      (λ want. subst (StopsBefore old new words) (sym want) (short (λ next. AtReading (stops next).name (stops next).came)))
      (λ says. subst (StopsBefore old new words) (sym says.1) (unread_by (string_bytes line) (string_bytes says.0) stops says.2)) is_own
  own_stops stop.CannotWrite own stops is_own = absurd (stops nothing_more)
  own_stops (stop.PairLost stage part line) own stops is_own = absurd (stops nothing_more)
  own_stops stop.OutOfMemory own stops is_own = subst (StopsBefore old new words) (sym is_own) (short stops)

-- a rehearsal that stops on its course stops on the way of its task
pub rehearsal_stops : (old new : FilesTold) (course : Course) (picture : Option (List ℕ)) (result : Result Answer Stop) → IfErr result (λ why. StopsOf old new course why)
    → IfErr result (λ why. StopsBy old new (way_in (Rehearses course picture)) why)
rehearsal_stops old new course picture (Ok answer) stops = tt
rehearsal_stops old new course picture (Err why) stops = λ next. stops

none_not_some : {A : Type 0} {x : A} → None ≡ Some x → ⊥
none_not_some e = cc

pub asks_something : (words : List (List ℕ)) (task : LookTask) → asked words ≡ Some task → asked words ≡ None → ⊥
asks_something words task is none = none_not_some (subst (λ t. None ≡ t) is (sym none))
