-- What words come to, of the end of the course that they ask for.
use Rattle.std.proofs.Common.{ℕ, ◌≡◌, List, refl, ap, sym, subst, Some, None, Ok, Err, inl, inr}
use Rattle.std.specs.Prelude.{IfErr, IfOk, IfSome, OnOk, Result, Vec, codes, option_map}
use Rattle.std.specs.declared.alloc.Global.{Global}
use Rattle.tuple_edge.specs.declared.event.Drained.{Drained}
use Rattle.tuple_edge.specs.declared.event.Drained.TheVariants as drained
use Rattle.pair_machine.specs.Drain.{partition}
use Rattle.command_course.specs.Course.{Came, Course, Run, Runs, StoppedShort, Writes}
use Rattle.command_course.specs.Steps.{HasReadCause}
use Rattle.command_course.specs.declared.stop.Stop.{Stop}
use Rattle.command_course.specs.declared.stop.Stop.TheVariants as stop
use Rattle.command_line.specs.Forms.{Request, form}
use Rattle.flux_outside.specs.Outside.{Adds, Call}
use Rattle.flux_outside.specs.Told.{FilesTold, SinkTold}
use Rattle.run_command.specs.Endings.{CameToRun, Ending, HasEnded, ending_of}
use Rattle.run_command.specs.declared.outcome.Outcome.{Outcome}
use Rattle.flux_top.specs.Clauses.{ComesTo, HasCause, IsQuiet, KeepsTo, StopsTo, WritesWhole}
use Rattle.flux_top.specs.Ends.{Ends, EndsBy, EndsOrLoses, Loses}
use Rattle.flux_top.specs.Finish.{IsFinished, StopsFinish}
use Rattle.flux_top.specs.Lines.{own_line}
use Rattle.flux_top.specs.Outcome.{CameToEnd, asked, course_of}
use Rattle.flux_top.specs.Stops.{StopsAs}
use Rattle.flux_top.proofs.LastSteps.{came_then, kept_of, short_then, unwritten_of, whole_of}
pub use Rattle.flux_top.proofs.LastSteps.{finished_cause}

-- ---- how a course ended

ends_or_loses : (how : Drained) (there : Course) (ending : Ending) → EndsBy how there ending → EndsOrLoses there ending
ends_or_loses drained.Whole there ending ends = inl ends
ends_or_loses (drained.Lost stage part) there ending ends = inr (partition stage part, ends)

module _ (before between after : FilesTold) (words : List (List ℕ)) (outcome : Outcome) (same : between.contents ≡ before.contents) where
  -- the calls that read, and these after them
  comes_of : (course : Course) → asked words ≡ Some course → CameToEnd before between course outcome → (ends : Course → Ending → Type 0)
      → ((there : Course) → EndsBy outcome.drained there (ending_of outcome) → ends there (ending_of outcome))
      → (more : List Call) → Adds between.calls after.calls more → ComesTo before after words ends (ending_of outcome) more
  comes_of course is ended ends so more added = record {
    there = ended.there;
    comes = record { course = course; is_asked = is; fact = came_then before between after course ended.there ended.came more added };
    ends_so = so ended.there ended.ends;
  }

  -- it ended, or a pair was lost
  comes_so : (course : Course) → asked words ≡ Some course → CameToEnd before between course outcome
      → (more : List Call) → Adds between.calls after.calls more → ComesTo before after words EndsOrLoses (ending_of outcome) more
  comes_so course is ended = comes_of course is ended EndsOrLoses (λ there ends. ends_or_loses outcome.drained there (ending_of outcome) ends)

  -- ---- what was written

  comes_whole : (course : Course) → asked words ≡ Some course → CameToEnd before between course outcome → outcome.drained ≡ drained.Whole
      → (more : List Call) → Adds between.calls after.calls more → ComesTo before after words Ends (ending_of outcome) more
  comes_whole course is ended whole = comes_of course is ended Ends (λ there ends. subst (λ how. EndsBy how there (ending_of outcome)) whole ends)

  comes_lost : (course : Course) → asked words ≡ Some course → CameToEnd before between course outcome → (stage part : ℕ) → outcome.drained ≡ drained.Lost stage part
      → (more : List Call) → Adds between.calls after.calls more → ComesTo before after words (Loses (partition stage part)) (ending_of outcome) more
  comes_lost course is ended stage part lost = comes_of course is ended (Loses (partition stage part)) (λ there ends. subst (λ how. EndsBy how there (ending_of outcome)) lost ends)

  stops_to : (course : Course) → asked words ≡ Some course → CameToEnd before between course outcome → between.save_faults ≡ before.save_faults → (old puts : SinkTold) (why : Stop)
      → StopsFinish (codes "flux") between after old puts outcome.drained (ending_of outcome) why → StopsTo before after words old puts why
  stops_to course is ended calm old puts stop.Usage stops = absurd stops
  stops_to course is ended calm old puts (stop.Refused line) stops = absurd stops
  stops_to course is ended calm old puts (stop.CannotRead line) stops = absurd stops
  stops_to course is ended calm old puts stop.CannotWrite stops =
      unwritten_of before between after (ComesTo before after words EndsOrLoses) (ending_of outcome) same (comes_so course is ended) old puts calm stops
  stops_to course is ended calm old puts (stop.PairLost stage part line) stops = record {
    writes = whole_of before between after (ComesTo before after words (Loses (partition stage part))) (ending_of outcome) same (comes_lost course is ended stage part stops.0) old puts stops.2;
    line_is = stops.1;
  }
  stops_to course is ended calm old puts stop.OutOfMemory stops = subst (λ c. IfSome c (StoppedShort before after)) (sym is) (short_then before between after course ended.there ended.came stops.added)

  -- ---- what stays of the files

  keeps_to : (course : Course) → asked words ≡ Some course → CameToEnd before between course outcome → (old puts : SinkTold) (why : Stop)
      → StopsFinish (codes "flux") between after old puts outcome.drained (ending_of outcome) why → KeepsTo before after words why
  keeps_to course is ended old puts stop.Usage stops = absurd stops
  keeps_to course is ended old puts (stop.Refused line) stops = absurd stops
  keeps_to course is ended old puts (stop.CannotRead line) stops = absurd stops
  keeps_to course is ended old puts stop.CannotWrite stops = tt
  keeps_to course is ended old puts (stop.PairLost stage part line) stops = tt
  keeps_to course is ended old puts stop.OutOfMemory stops = kept_of before between after (ComesTo before after words EndsOrLoses) (ending_of outcome) same (comes_so course is ended) stops

  -- ---- what the last steps of a command answered

  pub finished_whole : (course : Course) (old puts : SinkTold) (result : Result (Unit {0}) Stop) → asked words ≡ Some course → CameToEnd before between course outcome
      → OnOk result (outcome.drained ≡ drained.Whole) → OnOk result (IsFinished between after old puts (ending_of outcome))
      → OnOk result (WritesWhole before after words Ends old puts)
  finished_whole course old puts (Ok x) is ended whole finished =
      whole_of before between after (ComesTo before after words Ends) (ending_of outcome) same (comes_whole course is ended whole) old puts finished
  finished_whole course old puts (Err why) is ended whole finished = tt

  pub finished_stops : (course : Course) (old puts : SinkTold) (result : Result (Unit {0}) Stop) → asked words ≡ Some course → CameToEnd before between course outcome
      → between.save_faults ≡ before.save_faults
      → IfErr result (λ why. StopsFinish (codes "flux") between after old puts outcome.drained (ending_of outcome) why)
      → IfErr result (λ why. StopsTo before after words old puts why)
  finished_stops course old puts (Ok x) is ended calm stops = tt
  finished_stops course old puts (Err why) is ended calm stops = stops_to course is ended calm old puts why stops

  pub finished_keeps : (course : Course) (old puts : SinkTold) (result : Result (Unit {0}) Stop) → asked words ≡ Some course → CameToEnd before between course outcome
      → IfErr result (λ why. StopsFinish (codes "flux") between after old puts outcome.drained (ending_of outcome) why)
      → IfErr result (λ why. KeepsTo before after words why)
  finished_keeps course old puts (Ok x) is ended stops = tt
  finished_keeps course old puts (Err why) is ended stops = keeps_to course is ended old puts why stops

-- ---- a command that stopped before its end

-- the course that words ask for
pub asked_of : (words : List (List ℕ)) (request : Request) → form words ≡ Some request → asked words ≡ Some (course_of request)
asked_of words request is = ap (option_map course_of) is

pub stopped_to : (before after : FilesTold) (words : List (List ℕ)) (course : Course) (old : SinkTold) (why : Stop) → asked words ≡ Some course
    → StopsAs own_line before after course why → StopsTo before after words old old why
stopped_to before after words course old stop.Usage is stops = absurd stops
stopped_to before after words course old (stop.Refused line) is stops =
    record { line = stops.line; comes = record { course = course; is_asked = is; fact = stops.comes }; said_is = stops.said_is }
stopped_to before after words course old (stop.CannotRead line) is stops =
    record { name = stops.name; comes = record { course = course; is_asked = is; fact = stops.comes }; said_is = stops.said_is }
stopped_to before after words course old stop.CannotWrite is stops = absurd stops
stopped_to before after words course old (stop.PairLost stage part line) is stops = absurd stops
stopped_to before after words course old stop.OutOfMemory is stops = subst (λ c. IfSome c (StoppedShort before after)) (sym is) stops

pub stopped_cause : (before now : ℕ) (why : Stop) → HasReadCause before now why → HasCause before now why
stopped_cause before now stop.Usage cause = cause
stopped_cause before now (stop.Refused line) cause = cause
stopped_cause before now (stop.CannotRead line) cause = cause
stopped_cause before now stop.CannotWrite cause = absurd cause
stopped_cause before now (stop.PairLost stage part line) cause = absurd cause
stopped_cause before now stop.OutOfMemory cause = cause

pub stopped_quiet : {A : Type 0} (out : A) (why : Stop) → IsQuiet out out why
stopped_quiet out stop.Usage = refl
stopped_quiet out (stop.Refused line) = refl
stopped_quiet out (stop.CannotRead line) = refl
stopped_quiet out stop.CannotWrite = tt
stopped_quiet out (stop.PairLost stage part line) = tt
stopped_quiet out stop.OutOfMemory = refl

pub stopped_keeps : (before after : FilesTold) (words : List (List ℕ)) (why : Stop) → after.contents ≡ before.contents → KeepsTo before after words why
stopped_keeps before after words stop.Usage kept = kept
stopped_keeps before after words (stop.Refused line) kept = kept
stopped_keeps before after words (stop.CannotRead line) kept = kept
stopped_keeps before after words stop.CannotWrite kept = tt
stopped_keeps before after words (stop.PairLost stage part line) kept = tt
stopped_keeps before after words stop.OutOfMemory kept = inl kept

-- ---- what a command came to

-- a text alone
pub text_ends : (old new : FilesTold) (course : Course) (text : Vec ℕ Global) (outcome : Outcome) → outcome.text ≡ text → outcome.journal ≡ None
    → outcome.drained ≡ drained.Whole → Came old new course (Writes text.items) → CameToEnd old new course outcome
text_ends old new course text outcome is none whole came = record {
  there = Writes text.items;
  came = came;
  ends = subst (λ how. EndsBy how (Writes text.items) (ending_of outcome)) (sym whole) (ap (λ bytes. bytes.items) is, ap (option_map (λ journal. (journal.name.now, journal.bytes.items))) none);
}

run_ends_by : (run : Run) (how : Drained) (ending : Ending) → HasEnded run how ending → EndsBy how (Runs run) ending
run_ends_by run drained.Whole ending ended = ended
run_ends_by run (drained.Lost stage part) ending ended = ended

-- a run
pub ok_run_ends : (old new : FilesTold) (course : Course) (result : Result Outcome Stop) → IfOk result (λ outcome. CameToRun old new course outcome)
    → IfOk result (λ outcome. CameToEnd old new course outcome)
ok_run_ends old new course (Ok outcome) comes = record {
  there = Runs comes.run;
  came = comes.came;
  ends = run_ends_by comes.run outcome.drained (ending_of outcome) comes.ended;
}
ok_run_ends old new course (Err why) comes = tt
