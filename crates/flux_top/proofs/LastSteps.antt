-- The last steps of a program, behind what its words came to.
use Rattle.std.proofs.Common.{ℕ, ◌≡◌, ◌∙◌, List, [], subst, append-nil, Ok, Err, ⊎_elim, inl, inr}
use Rattle.std.specs.Prelude.{◌⊎◌, IfErr, Result}
use Rattle.tuple_edge.specs.declared.event.Drained.{Drained}
use Rattle.command_course.specs.Course.{Between, Came, Course, StoppedShort}
use Rattle.command_course.specs.declared.stop.Stop.{Stop}
use Rattle.command_course.specs.declared.stop.Stop.TheVariants as stop
use Rattle.command_course.proofs.Courses.{adds_on}
use Rattle.flux_outside.specs.Outside.{Adds, Call, Rose}
use Rattle.flux_outside.specs.Told.{FilesTold, SinkTold}
use Rattle.run_command.specs.Endings.{Ending}
use Rattle.flux_top.specs.Clauses.{HasCause}
use Rattle.flux_top.specs.Ends.{Keeps, MayBeLost, saves_of}
use Rattle.flux_top.specs.Finish.{IsFinished, IsFinishedInPart, IsNotSaved, IsSaved, IsShort, StopsFinish}
use Rattle.flux_top.specs.Programs.{CameThen, Finishes, KeepsFiles, SavesNot, WritesNot, WritesPart, WritesWhole}

-- ---- more calls behind those that read

module _ (before between after : FilesTold) (course there : Course) (came : Came before between course there) where
  pub came_then : (more : List Call) → Adds between.calls after.calls more → CameThen before after more course there
  came_then more added = record {
    reads = came.calls;
    leads = came.leads;
    added = adds_on before.calls between.calls after.calls came.calls more came.added added;
  }

  -- where no memory was to be had, no call was added but those that read
  pub short_then : Adds between.calls after.calls [] → StoppedShort before after course
  short_then none = Between there (record {
    calls = came.calls;
    leads = came.leads;
    added = subst (Adds before.calls after.calls) (append-nil came.calls) (adds_on before.calls between.calls after.calls came.calls [] came.added none);
  })

-- ---- what was saved and written

module _ (before between after : FilesTold) (ComesTo : Ending → List Call → Type 0) (ending : Ending) (same : between.contents ≡ before.contents)
    (comes : (more : List Call) → Adds between.calls after.calls more → ComesTo ending more) where
  finishes_of : IsSaved between after ending.saved → Finishes ComesTo before after ending
  finishes_of saved = record { comes = comes (saves_of ending.saved) saved.added; keeps = subst (λ names. Keeps names after.contents ending.saved) same saved.keeps }

  pub whole_of : (old new : SinkTold) → IsFinished between after old new ending → WritesWhole ComesTo before after old new
  whole_of old new finished = record { ending = ending; finishes = finishes_of finished.saved; takes = finished.put.takes; offers = finished.put.offers }

  part_of : (old new : SinkTold) → IsFinishedInPart between after old new ending → WritesPart ComesTo before after old new
  part_of old new part = record { ending = ending; finishes = finishes_of part.saved; takes = part.put.takes; offers = part.put.offers; rose = part.put.rose }

  unsaved_of : between.save_faults ≡ before.save_faults → IsNotSaved between after ending.saved → SavesNot ComesTo before after
  unsaved_of calm fails = record {
    ending = ending;
    comes = comes (saves_of ending.saved) fails.added;
    others = subst (λ names. MayBeLost names after.contents ending.saved) same fails.others;
    rose = subst (λ faults. Rose faults after.save_faults) calm fails.rose;
  }

  pub unwritten_of : (old new : SinkTold) → between.save_faults ≡ before.save_faults → IsFinishedInPart between after old new ending ⊎ (IsNotSaved between after ending.saved × (new ≡ old))
      → WritesNot ComesTo before after old new
  unwritten_of old new calm stops = ⊎_elim (λ part. inl (part_of old new part)) (λ fails. inr (unsaved_of calm fails.0, fails.1)) stops

  pub kept_of : IsShort between after ending.saved → KeepsFiles ComesTo before after
  kept_of short = ⊎_elim (λ kept. inl (kept ∙ same))
      (λ others. inr (record { ending = ending; comes = comes [] short.added; others = subst (λ names. MayBeLost names after.contents ending.saved) same others })) short.keeps

-- ---- why they stopped

finish_cause : (name : List ℕ) (before after : FilesTold) (old new : SinkTold) (how : Drained) (ending : Ending) (reads_before reads_now : ℕ) (why : Stop) → reads_now ≡ reads_before
    → StopsFinish name before after old new how ending why → HasCause reads_before reads_now why
finish_cause name before after old new how ending reads_before reads_now stop.Usage still stops = absurd stops
finish_cause name before after old new how ending reads_before reads_now (stop.Refused line) still stops = absurd stops
finish_cause name before after old new how ending reads_before reads_now (stop.CannotRead line) still stops = absurd stops
finish_cause name before after old new how ending reads_before reads_now stop.CannotWrite still stops = still
finish_cause name before after old new how ending reads_before reads_now (stop.PairLost stage part line) still stops = still
finish_cause name before after old new how ending reads_before reads_now stop.OutOfMemory still stops = tt

pub finished_cause : {A : Type 0} (name : List ℕ) (before after : FilesTold) (old new : SinkTold) (how : Drained) (ending : Ending) (reads_before reads_now : ℕ) (result : Result A Stop)
    → reads_now ≡ reads_before → IfErr result (λ why. StopsFinish name before after old new how ending why) → IfErr result (λ why. HasCause reads_before reads_now why)
finished_cause name before after old new how ending reads_before reads_now (Ok x) still stops = tt
finished_cause name before after old new how ending reads_before reads_now (Err why) still stops = finish_cause name before after old new how ending reads_before reads_now why still stops
