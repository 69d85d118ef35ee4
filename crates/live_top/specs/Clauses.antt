-- What the clauses of `flux_live` say, as those of `flux` do, of its own lines, of its words as words of `flux run`, and of a run that is written while it goes on.
use Rattle.std.specs.Prelude.{ℕ, ◌≡◌, ◌⊎◌, List}
use Rattle.pair_machine.specs.Numbers.{Partition}
use Rattle.flux_outside.specs.Outside.{Rose}
use Rattle.flux_outside.specs.Told.{FilesTold, SinkTold}
use Rattle.flux_top.specs.Clauses.{Accepts, ComesToRead, ComesToRefusal, IsStatus, Rejects, StopsShort}
use Rattle.flux_top.specs.Ends.{IsAtEnd, LosesNone}
use Rattle.flux_top.specs.Programs as program
use Rattle.live_feed.specs.declared.answer.Live.TheVariants as live
use Rattle.live_top.specs.Lines.{lines, lost_line, own_line}
use Rattle.live_top.specs.Runs.{Lived}
use Rattle.live_top.specs.Words.{as_run}

-- no status is one at which a file may have been saved
abbrev pub MaySave : ℕ → Type 0
MaySave status = ⊥

-- It is one of the statuses of `flux`, and at those that have a line of their own that line is said.
abbrev pub SaysAt : ℕ → SinkTold → SinkTold → Type 0
SaysAt = program.SaysAt lines IsStatus

-- What stays of the files at a status. The first want of memory ends it, with 8. The count of faults of reads stays but at 4 and 8, and that of saves and what names hold stay at all.
abbrev pub StaysAt : ℕ → FilesTold → FilesTold → Type 0
StaysAt = program.StaysAt MaySave

-- an input was refused, and the line of `flux` was said of it, under the own name
abbrev pub SaysRefusal : FilesTold → FilesTold → List (List ℕ) → SinkTold → SinkTold → Type 0
SaysRefusal before after words = program.SaysRefusal (ComesToRefusal before after (as_run words)) own_line

-- the file that was to be read last could not be read, as the count of faults of reads rose, and its name was said
abbrev pub SaysUnread : FilesTold → FilesTold → List (List ℕ) → SinkTold → SinkTold → Type 0
SaysUnread before after words = program.SaysUnread (ComesToRead before after (as_run words)) own_line before after

-- a pair was lost, what was emitted before was put, and the pair's name was said
pub record SaysLost (before after : FilesTold) (words : List (List ℕ)) (old new : SinkTold) (said says : SinkTold) : Type 0 where
  pub pair : Partition
  pub lived : Lived before after words old new (live.Lost pair.stage pair.part)
  pub tells : program.Tells said says (lost_line pair)

-- no memory was to be had before anything was put, or while a run was written
abbrev pub FallsShort : FilesTold → FilesTold → List (List ℕ) → SinkTold → SinkTold → Type 0
FallsShort before after words old new = (StopsShort before after (as_run words) × (new ≡ old)) ⊎ Lived before after words old new live.OutOfMemory

-- Where the files tell what they hold and no count rose, what they hold is accepted and done, or it is refused, unless no memory was to be had. Only a run under a
-- script that isn't safe may lose a pair.
pub record IsComplete (status : ℕ) (before after : FilesTold) (words : List (List ℕ)) (old new : SinkTold) : Type 0 where
  pub complete : Accepts before.contents (as_run words) LosesNone → (Rose before.read_faults after.read_faults → ⊥) → (Rose old.faults new.faults → ⊥) → (status ≡ 0) ⊎ (status ≡ 8)
  pub may_lose : Accepts before.contents (as_run words) IsAtEnd → (Rose before.read_faults after.read_faults → ⊥) → (Rose old.faults new.faults → ⊥)
      → (status ≡ 0) ⊎ (status ≡ 6) ⊎ (status ≡ 8)
  pub rejects : Rejects before.contents (as_run words) → (Rose before.read_faults after.read_faults → ⊥) → (status ≡ 3) ⊎ (status ≡ 8)
