-- What the clauses of a program say: of its lines, of its statuses, and of what its words come to. `flux`, `flux_live` and `flux_look` say it of their own.
use Rattle.std.specs.Prelude.{ℕ, ◌≡◌, ◌≢◌, ◌⊎◌, ◌++◌, List, [], Option, Some}
use Rattle.pair_machine.specs.Numbers.{Partition}
use Rattle.command_course.specs.Course.{Course, Leads}
use Rattle.command_course.specs.Lines.{cannot_read_line}
use Rattle.flux_outside.specs.Outside.{Adds, Call, OffersRests, Rose, StopsAtWant, Takes, TakesPart}
use Rattle.flux_outside.specs.Told.{FilesTold, SinkTold}
use Rattle.run_command.specs.Endings.{Ending}
use Rattle.flux_top.specs.Ends.{Keeps, MayBeLost, saves_of}

-- ---- its lines and its statuses

-- a line was taken whole, or a proper prefix of it where the count of faults rose; each put was given all that was left of it
pub record Tells (old new : SinkTold) (line : List ℕ) : Type 0 where
  pub takes : Takes old.taken new.taken line ⊎ (TakesPart old.taken new.taken line × Rose old.faults new.faults)
  pub offers : OffersRests old.offered new.offered line

-- what a program says of words that have no form, of what could not be written or saved, and where memory ran out
pub record Lines : Type 0 where
  pub usage : List ℕ
  pub unwritten : List ℕ
  pub short : List ℕ

-- It is one of the statuses that there are, and at those that have a line of their own that line is said.
pub record SaysAt (lines : Lines) (IsStatus : ℕ → Type 0) (status : ℕ) (old new : SinkTold) : Type 0 where
  pub is_status : IsStatus status
  pub usage : status ≡ 2 → Tells old new lines.usage
  pub unwritten : status ≡ 5 → Tells old new lines.unwritten
  pub short : status ≡ 8 → Tells old new lines.short

-- What stays of the files at a status, where at some a file may have been saved. The first want of memory ends it, with 8. The count of faults of reads stays but
-- at 4 and 8. What names hold stays but where a file may have been saved, and the count of faults of saves but where that is so at 5.
pub record StaysAt (MaySave : ℕ → Type 0) (status : ℕ) (before after : FilesTold) : Type 0 where
  pub wants : StopsAtWant before.wants after.wants (status ≡ 8)
  pub reads : status ≢ 4 → status ≢ 8 → after.read_faults ≡ before.read_faults
  pub kept : (MaySave status → ⊥) → after.contents ≡ before.contents
  pub saves : (MaySave status → status ≢ 5) → after.save_faults ≡ before.save_faults

-- ---- what its words ask for

-- words ask for something, of which this holds
pub record AsksFor {A : Type 0} (asked : Option A) (holds : A → Type 0) : Type 0 where
  pub course : A
  pub is_asked : asked ≡ Some course
  pub fact : holds course

-- a course came to there by calls that read; they were added, and then these
pub record CameThen (before after : FilesTold) (more : List Call) (course there : Course) : Type 0 where
  pub reads : List Call
  pub leads : Leads before.contents course reads there
  pub added : Adds before.calls after.calls (reads ++ more)

-- an input was refused, by what the words come to, and its line said
pub record SaysRefusal (ComesToRefusal : List ℕ → Type 0) (says : List ℕ → List ℕ) (old new : SinkTold) : Type 0 where
  pub line : List ℕ
  pub comes : ComesToRefusal line
  pub tells : Tells old new (says line)

-- the file that was to be read last could not be read, as the count of faults of reads rose, and its name said
pub record SaysUnread (ComesToRead : List ℕ → Type 0) (says : List ℕ → List ℕ) (before after : FilesTold) (old new : SinkTold) : Type 0 where
  pub name : List ℕ
  pub comes : ComesToRead name
  pub tells : Tells old new (says (cannot_read_line name))
  pub rose : Rose before.read_faults after.read_faults

-- a line is said of a refused input, by what the words come to
pub record RefusesBy (ComesToRefusal : List ℕ → Type 0) (says : List ℕ → List ℕ) (said : List ℕ) : Type 0 where
  pub line : List ℕ
  pub comes : ComesToRefusal line
  pub said_is : said ≡ says line

-- a line is said of a file that can't be read
pub record UnreadBy (ComesToRead : List ℕ → Type 0) (says : List ℕ → List ℕ) (said : List ℕ) : Type 0 where
  pub name : List ℕ
  pub comes : ComesToRead name
  pub said_is : said ≡ says (cannot_read_line name)

-- ---- how what they ask for ends: with a text, and a file that is saved before it, if there is one

-- The words' command came to this ending, and where it has a file to save, the last call saved it.
pub record Finishes (ComesTo : Ending → List Call → Type 0) (before after : FilesTold) (ending : Ending) : Type 0 where
  pub comes : ComesTo ending (saves_of ending.saved)
  pub keeps : Keeps before.contents after.contents ending.saved

-- and its text was written whole, each put being given all that was left of it
pub record WritesWhole (ComesTo : Ending → List Call → Type 0) (before after : FilesTold) (old new : SinkTold) : Type 0 where
  pub ending : Ending
  pub finishes : Finishes ComesTo before after ending
  pub takes : Takes old.taken new.taken ending.text
  pub offers : OffersRests old.offered new.offered ending.text

-- or a proper prefix of it, in the same way, as the count of the sink's faults rose
pub record WritesPart (ComesTo : Ending → List Call → Type 0) (before after : FilesTold) (old new : SinkTold) : Type 0 where
  pub ending : Ending
  pub finishes : Finishes ComesTo before after ending
  pub takes : TakesPart old.taken new.taken ending.text
  pub offers : OffersRests old.offered new.offered ending.text
  pub rose : Rose old.faults new.faults

-- The words' command came to its end, but its file was not saved, as the count of faults of saves rose.
pub record SavesNot (ComesTo : Ending → List Call → Type 0) (before after : FilesTold) : Type 0 where
  pub ending : Ending
  pub comes : ComesTo ending (saves_of ending.saved)
  pub others : MayBeLost before.contents after.contents ending.saved
  pub rose : Rose before.save_faults after.save_faults

-- The words' command came to its end, but no memory was to be had for the save of its file, which is no call that was added.
pub record SavesShort (ComesTo : Ending → List Call → Type 0) (before after : FilesTold) : Type 0 where
  pub ending : Ending
  pub comes : ComesTo ending []
  pub others : MayBeLost before.contents after.contents ending.saved

-- the files hold what they held, but for one for whose save no memory was to be had
abbrev pub KeepsFiles : (Ending → List Call → Type 0) → FilesTold → FilesTold → Type 0
KeepsFiles ComesTo before after = (after.contents ≡ before.contents) ⊎ SavesShort ComesTo before after

-- a text wasn't written whole; or its file was not saved, and nothing was written
abbrev pub WritesNot : (Ending → List Call → Type 0) → FilesTold → FilesTold → SinkTold → SinkTold → Type 0
WritesNot ComesTo before after old new = WritesPart ComesTo before after old new ⊎ (SavesNot ComesTo before after × (new ≡ old))

-- want of memory stopped the words' command, and what names hold then
pub record FallsShort (Stops : Type 0) (ComesTo : Ending → List Call → Type 0) (before after : FilesTold) : Type 0 where
  pub stops : Stops
  pub kept : KeepsFiles ComesTo before after

-- a pair was lost, what was emitted before was written whole, and the pair's name said
pub record SaysLost (Loses : Partition → Ending → List Call → Type 0) (says : Partition → List ℕ) (before after : FilesTold) (old new said told : SinkTold) : Type 0 where
  pub pair : Partition
  pub writes : WritesWhole (Loses pair) before after old new
  pub tells : Tells said told (says pair)
