-- How the program ends, from the answer of its words on.
use Rattle.std.proofs.Common.{ℕ, ◌≡◌, List, [], refl, subst, sym, Ok, Err, inl}
use Rattle.std.specs.Prelude.{IfErr, IfOk, IfSome, OnOk, Result}
use Rattle.tuple_edge.specs.declared.event.Drained.TheVariants as drained
use Rattle.command_course.specs.Course.{Course, Runs, StoppedShort}
use Rattle.command_course.specs.declared.stop.Stop.{Stop}
use Rattle.command_course.specs.declared.stop.Stop.TheVariants as stop
use Rattle.flux_outside.specs.Outside.{Adds, Call}
use Rattle.flux_outside.specs.Told.{FilesTold, SinkTold}
use Rattle.flux_top.specs.Finish.{IsFinished, StopsFinish}
use Rattle.flux_top.proofs.LastSteps.{came_then, kept_of, short_then, unwritten_of, whole_of}
use Rattle.command_course.specs.Answers.{AnswerView}
use Rattle.command_course.specs.declared.answer.Ending.{Ending}
use Rattle.command_course.specs.declared.answer.Ending.TheVariants.{Done, Faulty, Lost, Warned}
use Rattle.look_top.specs.Asked.{Answers, Rehearses, LookTask, way_in}
use Rattle.look_top.specs.Clauses.{CameTo, ComesTo, ComesToAny, WritesWhole}
use Rattle.look_top.specs.Lines.{name}
use Rattle.look_top.specs.Stops.{Gives, KeepsTo, StopsBefore, StopsTo, TaskGives, drained_of, written_of}

-- only the answer of a run that lost a pair is drained so
lost_ending : (ending : Ending) (stage part : ℕ) → drained_of ending ≡ drained.Lost stage part → ending ≡ Lost stage part
lost_ending Done stage part is = cc
lost_ending Warned stage part is = cc
lost_ending Faulty stage part is = cc
lost_ending (Lost s p) stage part is = cc

module _ (before between after : FilesTold) (of : AnswerView) where
  -- the calls that read, and these after them
  came_to : (task : LookTask) → TaskGives before between of task → (more : List Call) → Adds between.calls after.calls more → CameTo before after of.ending (written_of of) more task
  came_to (Answers way) gives more added = λ next. came_then before between after (way next) (next of) (gives next) more added
  came_to (Rehearses course picture) gives more added = (gives.run, came_then before between after course (Runs gives.run) gives.came more added, gives.rehearsed)

  stopped_in : (task : LookTask) → TaskGives before between of task → Adds between.calls after.calls [] → (next : AnswerView → Course) → StoppedShort before after (way_in task next)
  stopped_in (Answers way) gives none = λ next. short_then before between after (way next) (next of) (gives next) none
  stopped_in (Rehearses course picture) gives none = λ next. short_then before between after course (Runs gives.run) gives.came none

module _ (before between after : FilesTold) (words : List (List ℕ)) (of : AnswerView) (gives : Gives before between words of) (same : between.contents ≡ before.contents) where
  comes_of : (ending : Ending) → of.ending ≡ ending → (more : List Call) → Adds between.calls after.calls more → ComesTo before after words ending (written_of of) more
  comes_of ending is more added = subst (λ e. ComesTo before after words e (written_of of) more) is (record {
    course = gives.course;
    is_asked = gives.is_asked;
    fact = came_to before between after of gives.course gives.fact more added;
  })

  comes_so : (more : List Call) → Adds between.calls after.calls more → ComesToAny before after words (written_of of) more
  comes_so more added = (of.ending, comes_of of.ending refl more added)

  stops_to : between.save_faults ≡ before.save_faults → (old new : SinkTold) (why : Stop) → StopsFinish name between after old new (drained_of of.ending) (written_of of) why
      → StopsTo before after words old new why
  stops_to calm old new stop.Usage stops = absurd stops
  stops_to calm old new (stop.Refused line) stops = absurd stops
  stops_to calm old new (stop.CannotRead line) stops = absurd stops
  stops_to calm old new stop.CannotWrite stops = unwritten_of before between after (ComesToAny before after words) (written_of of) same comes_so old new calm stops
  stops_to calm old new (stop.PairLost stage part line) stops = record {
    writes = whole_of before between after (ComesTo before after words (Lost stage part)) (written_of of) same (comes_of (Lost stage part) (lost_ending of.ending stage part stops.0)) old new stops.2;
    line_is = stops.1;
  }
  stops_to calm old new stop.OutOfMemory stops = subst (λ t. IfSome t (λ task. (next : AnswerView → Course) → StoppedShort before after (way_in task next))) (sym gives.is_asked)
      (stopped_in before between after of gives.course gives.fact stops.added)

  keeps_to : (old new : SinkTold) (why : Stop) → StopsFinish name between after old new (drained_of of.ending) (written_of of) why → KeepsTo before after words why
  keeps_to old new stop.Usage stops = absurd stops
  keeps_to old new (stop.Refused line) stops = absurd stops
  keeps_to old new (stop.CannotRead line) stops = absurd stops
  keeps_to old new stop.CannotWrite stops = tt
  keeps_to old new (stop.PairLost stage part line) stops = tt
  keeps_to old new stop.OutOfMemory stops = kept_of before between after (ComesToAny before after words) (written_of of) same comes_so stops

  -- ---- what the last steps answered

  pub finished_whole : (old new : SinkTold) (result : Result Ending Stop) → IfOk result (λ how. (how ≡ of.ending) × (drained_of how ≡ drained.Whole))
      → OnOk result (IsFinished between after old new (written_of of)) → IfOk result (λ how. WritesWhole before after words how old new)
  finished_whole old new (Ok how) whole finished = whole_of before between after (ComesTo before after words how) (written_of of) same (comes_of how (sym whole.0)) old new finished
  finished_whole old new (Err why) whole finished = tt

  pub finished_stops : (old new : SinkTold) (result : Result Ending Stop) → between.save_faults ≡ before.save_faults
      → IfErr result (λ why. StopsFinish name between after old new (drained_of of.ending) (written_of of) why) → IfErr result (λ why. StopsTo before after words old new why)
  finished_stops old new (Ok how) calm stops = tt
  finished_stops old new (Err why) calm stops = stops_to calm old new why stops

  pub finished_keeps : (old new : SinkTold) (result : Result Ending Stop)
      → IfErr result (λ why. StopsFinish name between after old new (drained_of of.ending) (written_of of) why) → IfErr result (λ why. KeepsTo before after words why)
  finished_keeps old new (Ok how) stops = tt
  finished_keeps old new (Err why) stops = keeps_to old new why stops

pub finished_ends : (ending : Ending) (result : Result Ending Stop) → IfOk result (λ how. (how ≡ ending) × (drained_of how ≡ drained.Whole)) → IfOk result (λ how. drained_of how ≡ drained.Whole)
finished_ends ending (Ok how) whole = whole.1
finished_ends ending (Err why) whole = tt

-- ---- words that came to no answer

pub stopped_before : (before after : FilesTold) (words : List (List ℕ)) (out : SinkTold) (why : Stop) → StopsBefore before after words why
    → StopsTo before after words out out why
stopped_before before after words out stop.Usage stops = stops
stopped_before before after words out (stop.Refused line) stops = stops
stopped_before before after words out (stop.CannotRead line) stops = stops
stopped_before before after words out stop.CannotWrite stops = absurd stops
stopped_before before after words out (stop.PairLost stage part line) stops = absurd stops
stopped_before before after words out stop.OutOfMemory stops = stops

pub stopped_keeps : (before after : FilesTold) (words : List (List ℕ)) (why : Stop) → after.contents ≡ before.contents → KeepsTo before after words why
stopped_keeps before after words stop.Usage kept = kept
stopped_keeps before after words (stop.Refused line) kept = kept
stopped_keeps before after words (stop.CannotRead line) kept = kept
stopped_keeps before after words stop.CannotWrite kept = tt
stopped_keeps before after words (stop.PairLost stage part line) kept = tt
stopped_keeps before after words stop.OutOfMemory kept = inl kept
