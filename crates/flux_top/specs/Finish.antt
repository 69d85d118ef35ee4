-- The last steps of a command: its journal is saved, and then its text is written.
use Rattle.std.specs.Prelude.{ℕ, ◌≡◌, ◌⊎◌, List, [], Option, None, Some}
use Rattle.std.specs.String.{string_bytes}
use Rattle.tuple_edge.specs.declared.event.Drained.{Drained}
use Rattle.tuple_edge.specs.declared.event.Drained.TheVariants as drained
use Rattle.pair_machine.specs.Drain.{partition}
use Rattle.command_course.specs.declared.stop.Stop.{Stop}
use Rattle.command_course.specs.declared.stop.Stop.TheVariants as stop
use Rattle.flux_outside.specs.Outside.{Adds, OffersRests, Rose, Takes, TakesPart}
use Rattle.flux_outside.specs.Told.{FilesTold, SinkTold}
use Rattle.run_command.specs.Endings.{Ending}
use Rattle.flux_top.specs.Ends.{Keeps, MayBeLost, saves_of}
use Rattle.flux_top.specs.Lines.{lost_line_by}

-- what is saved was saved, by one call if there is something
pub record IsSaved (before after : FilesTold) (saved : Option (List ℕ × List ℕ)) : Type 0 where
  pub added : Adds before.calls after.calls (saves_of saved)
  pub keeps : Keeps before.contents after.contents saved

-- it was not, as the count of faults of saves rose
pub record IsNotSaved (before after : FilesTold) (saved : Option (List ℕ × List ℕ)) : Type 0 where
  pub added : Adds before.calls after.calls (saves_of saved)
  pub others : MayBeLost before.contents after.contents saved
  pub rose : Rose before.save_faults after.save_faults

-- no memory was to be had, before the save or for it
pub record IsShort (before after : FilesTold) (saved : Option (List ℕ × List ℕ)) : Type 0 where
  pub added : Adds before.calls after.calls []
  pub keeps : (after.contents ≡ before.contents) ⊎ MayBeLost before.contents after.contents saved

-- why what is saved was not saved
abbrev pub StopsSave : FilesTold → FilesTold → Option (List ℕ × List ℕ) → Stop → Type 0
StopsSave before after saved stop.Usage = ⊥
StopsSave before after saved (stop.Refused line) = ⊥
StopsSave before after saved (stop.CannotRead line) = ⊥
StopsSave before after saved stop.CannotWrite = IsNotSaved before after saved
StopsSave before after saved (stop.PairLost stage part line) = ⊥
StopsSave before after saved stop.OutOfMemory = IsShort before after saved

-- what a program of this name says where a pair was lost, and nothing where none was
abbrev pub Says : List ℕ → Drained → Option Stop → Type 0
Says name drained.Whole why = why ≡ None
Says name (drained.Lost stage part) why = (line : _) × (why ≡ Some (stop.PairLost stage part line)) × (string_bytes line ≡ lost_line_by name (partition stage part))

-- a text was put whole
pub record IsPut (old new : SinkTold) (text : List ℕ) : Type 0 where
  pub takes : Takes old.taken new.taken text
  pub offers : OffersRests old.offered new.offered text

-- a text was put in part, and the count of faults rose
pub record IsPutInPart (old new : SinkTold) (text : List ℕ) : Type 0 where
  pub takes : TakesPart old.taken new.taken text
  pub offers : OffersRests old.offered new.offered text
  pub rose : Rose old.faults new.faults

-- why a program of this name stopped after its text was put, or while it was
abbrev pub StopsPut : List ℕ → SinkTold → SinkTold → Drained → List ℕ → Stop → Type 0
StopsPut name old new how text stop.Usage = ⊥
StopsPut name old new how text (stop.Refused line) = ⊥
StopsPut name old new how text (stop.CannotRead line) = ⊥
StopsPut name old new how text stop.CannotWrite = IsPutInPart old new text
StopsPut name old new how text (stop.PairLost stage part line) = (how ≡ drained.Lost stage part) × (string_bytes line ≡ lost_line_by name (partition stage part)) × IsPut old new text
StopsPut name old new how text stop.OutOfMemory = ⊥

-- all was saved and put
pub record IsFinished (before after : FilesTold) (old new : SinkTold) (ending : Ending) : Type 0 where
  pub saved : IsSaved before after ending.saved
  pub put : IsPut old new ending.text

-- all was saved, and not all put
pub record IsFinishedInPart (before after : FilesTold) (old new : SinkTold) (ending : Ending) : Type 0 where
  pub saved : IsSaved before after ending.saved
  pub put : IsPutInPart old new ending.text

-- why a program of this name stopped in its last steps
abbrev pub StopsFinish : List ℕ → FilesTold → FilesTold → SinkTold → SinkTold → Drained → Ending → Stop → Type 0
StopsFinish name before after old new how ending stop.Usage = ⊥
StopsFinish name before after old new how ending (stop.Refused line) = ⊥
StopsFinish name before after old new how ending (stop.CannotRead line) = ⊥
StopsFinish name before after old new how ending stop.CannotWrite =
    IsFinishedInPart before after old new ending ⊎ (IsNotSaved before after ending.saved × (new ≡ old))
StopsFinish name before after old new how ending (stop.PairLost stage part line) =
    (how ≡ drained.Lost stage part) × (string_bytes line ≡ lost_line_by name (partition stage part)) × IsFinished before after old new ending
StopsFinish name before after old new how ending stop.OutOfMemory = IsShort before after ending.saved
