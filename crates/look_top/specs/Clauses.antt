-- What the clauses of `flux_look` say, as those of `flux` do, of its own lines, words and answers.
use Rattle.std.specs.Prelude.{ℕ, ◌≡◌, ◌⊎◌, List, Option, None, Some, IfSome}
use Rattle.pair_machine.specs.Scripts.{IsSafe}
use Rattle.command_course.specs.Course.{Came, Course, Leads, Refuses, Run, Runs, StoppedShort}
use Rattle.command_course.specs.Lines.{cannot_read_line}
use Rattle.command_course.specs.Steps.{IsUnread}
use Rattle.flux_outside.specs.Outside.{Call, Names, Rose}
use Rattle.flux_outside.specs.Told.{FilesTold, SinkTold}
use Rattle.flux_top.specs.Programs as program
use Rattle.command_course.specs.Answers.{AnswerView, status_of}
use Rattle.command_course.specs.declared.answer.Ending.{Ending}
use Rattle.command_course.specs.declared.answer.Ending.TheVariants.{Lost}
use Rattle.look_top.specs.Asked.{Answers, AsksFor, Rehearses, LookTask, asked, way_in}
use Rattle.look_top.specs.Lines.{lines, lost_line, own_line}
use Rattle.rehearse_command.specs.Rehearsals.{IsRehearsed}
use Rattle.run_command.specs.Endings.{Ending as Written}

-- ---- its statuses

-- the statuses that there are
abbrev pub IsStatus : ℕ → Type 0
IsStatus status = (status ≡ 0) ⊎ (status ≡ 1) ⊎ (status ≡ 2) ⊎ (status ≡ 3) ⊎ (status ≡ 4) ⊎ (status ≡ 5) ⊎ (status ≡ 6) ⊎ (status ≡ 8)

-- those at which a file may have been saved
abbrev pub MaySave : ℕ → Type 0
MaySave status = (status ≡ 0) ⊎ (status ≡ 1) ⊎ (status ≡ 3) ⊎ (status ≡ 5) ⊎ (status ≡ 6) ⊎ (status ≡ 8)

-- It is one of the statuses that there are, and at those that have a line of their own that line is said.
abbrev pub SaysAt : ℕ → SinkTold → SinkTold → Type 0
SaysAt = program.SaysAt lines IsStatus

-- What stays of the files at a status: all, but that a file may be saved where an answer is.
abbrev pub StaysAt : ℕ → FilesTold → FilesTold → Type 0
StaysAt = program.StaysAt MaySave

-- ---- what its words come to

-- the answer with what was written, and saved before, after which a command ends so
abbrev pub answer_with : Ending → Written → AnswerView
answer_with ending written = record { text = written.text; ending = ending; saved = written.saved }

-- Whatever comes behind a task's answer, the task came to it, by calls that read; these more calls were added after them. It is the answer that ends so. A rehearsal
-- came to a run, and that is the answer which tells of it.
abbrev pub CameTo : FilesTold → FilesTold → Ending → Written → List Call → LookTask → Type 0
CameTo before after ending written more (Answers way) = (next : AnswerView → Course) → program.CameThen before after more (way next) (next (answer_with ending written))
CameTo before after ending written more (Rehearses course picture) = (run : Run) × program.CameThen before after more course (Runs run) × IsRehearsed run picture (answer_with ending written)

-- the task that words ask for came there
abbrev pub ComesTo : FilesTold → FilesTold → List (List ℕ) → Ending → Written → List Call → Type 0
ComesTo before after words ending written more = AsksFor words (CameTo before after ending written more)

-- they came to an answer, however it ends
abbrev pub ComesToAny : FilesTold → FilesTold → List (List ℕ) → Written → List Call → Type 0
ComesToAny before after words written more = (ending : Ending) × ComesTo before after words ending written more

-- The words came to an answer that ends so. Where it has a file, the last call saved it, and then its text was written whole.
abbrev pub WritesWhole : FilesTold → FilesTold → List (List ℕ) → Ending → SinkTold → SinkTold → Type 0
WritesWhole before after words ending = program.WritesWhole (ComesTo before after words ending) before after

-- a proper front of it was written, as the count of the sink's faults rose; or its file was not saved, as the count of faults of saves rose, and nothing was written
abbrev pub WritesNot : FilesTold → FilesTold → List (List ℕ) → SinkTold → SinkTold → Type 0
WritesNot before after words = program.WritesNot (ComesToAny before after words) before after

-- the files hold what they held, but for one for whose save no memory was to be had
abbrev pub KeepsFiles : FilesTold → FilesTold → List (List ℕ) → Type 0
KeepsFiles before after words = program.KeepsFiles (ComesToAny before after words) before after

-- whatever comes behind the words' answer, they came to a refusal by the calls that were added
abbrev pub ComesToRefusal : FilesTold → FilesTold → List (List ℕ) → List ℕ → Type 0
ComesToRefusal before after words line = AsksFor words (λ task. (next : AnswerView → Course) → Came before after (way_in task next) (Refuses line))

-- whatever comes behind the words' answer, they came to the reading of this file, which was tried last
abbrev pub ComesToRead : FilesTold → FilesTold → List (List ℕ) → List ℕ → Type 0
ComesToRead before after words file = AsksFor words (λ task. (next : AnswerView → Course) → IsUnread before after (way_in task next) (cannot_read_line file))

-- the words' command stopped on its way, if they ask for one
abbrev pub StopsShort : FilesTold → FilesTold → List (List ℕ) → Type 0
StopsShort before after words = IfSome (asked words) (λ task. (next : AnswerView → Course) → StoppedShort before after (way_in task next))

-- the same, and what names hold then
abbrev pub FallsShort : FilesTold → FilesTold → List (List ℕ) → Type 0
FallsShort before after words = program.FallsShort (StopsShort before after words) (ComesToAny before after words) before after

-- an input or an event was refused, and the line of `flux` was said of it, under the own name
abbrev pub SaysRefusal : FilesTold → FilesTold → List (List ℕ) → SinkTold → SinkTold → Type 0
SaysRefusal before after words = program.SaysRefusal (ComesToRefusal before after words) own_line

-- the file that was to be read last could not be read, as the count of faults of reads rose, and its name was said
abbrev pub SaysUnread : FilesTold → FilesTold → List (List ℕ) → SinkTold → SinkTold → Type 0
SaysUnread before after words = program.SaysUnread (ComesToRead before after words) own_line before after

-- a pair was lost in the run that the words ask for, what is told of that was written whole, and the pair's name said
abbrev pub SaysLost : FilesTold → FilesTold → List (List ℕ) → SinkTold → SinkTold → SinkTold → SinkTold → Type 0
SaysLost before after words = program.SaysLost (λ pair. ComesTo before after words (Lost pair.stage pair.part)) lost_line before after

-- ---- over files that tell what they hold

-- of what these names hold a task comes to this answer
abbrev pub SettlesBy : Names → AnswerView → LookTask → Type 0
SettlesBy named answer (Answers way) = (calls : List Call) × ((next : AnswerView → Course) → Leads (Some named) (way next) calls (next answer))
SettlesBy named answer (Rehearses course picture) = ⊥

-- the files tell what they hold, and of that the words come to this answer
abbrev pub Settles : Option Names → List (List ℕ) → AnswerView → Type 0
Settles None words answer = ⊥
Settles (Some named) words answer = AsksFor words (SettlesBy named answer)

-- of what these names hold a rehearsal comes to a run of this kind
abbrev pub RunsBy : Names → (Run → Type 0) → LookTask → Type 0
RunsBy named kind (Answers way) = ⊥
RunsBy named kind (Rehearses course picture) = (calls : List Call) × (run : Run) × kind run × Leads (Some named) course calls (Runs run)

-- the files tell what they hold, and of that the words come to the rehearsal of a run of this kind
abbrev pub RunsSo : Option Names → List (List ℕ) → (Run → Type 0) → Type 0
RunsSo None words kind = ⊥
RunsSo (Some named) words kind = AsksFor words (RunsBy named kind)

-- of what these names hold the words come to a refusal
pub record RejectsBy (named : Names) (words : List (List ℕ)) : Type 0 where
  pub line : List ℕ
  pub calls : List Call
  pub leads : AsksFor words (λ task. (next : AnswerView → Course) → Leads (Some named) (way_in task next) calls (Refuses line))

-- the files tell what they hold, and of that the words come to a refusal
abbrev pub Rejects : Option Names → List (List ℕ) → Type 0
Rejects None words = ⊥
Rejects (Some named) words = RejectsBy named words

-- Where the files tell what they hold and no count rose, what they hold comes to its status, or it is refused, unless no memory was to be had. The count of faults
-- of saves matters only where a file is saved. Only a rehearsal under a script that isn't safe may lose a pair.
pub record IsComplete (status : ℕ) (before after : FilesTold) (words : List (List ℕ)) (old new : SinkTold) : Type 0 where
  pub settles : (answer : AnswerView) → Settles before.contents words answer → (Rose before.read_faults after.read_faults → ⊥)
      → (answer.saved ≡ None) ⊎ (Rose before.save_faults after.save_faults → ⊥) → (Rose old.faults new.faults → ⊥) → (status ≡ status_of answer.ending) ⊎ (status ≡ 8)
  pub runs : RunsSo before.contents words (λ run. IsSafe run.script) → (Rose before.read_faults after.read_faults → ⊥) → (Rose before.save_faults after.save_faults → ⊥)
      → (Rose old.faults new.faults → ⊥) → (status ≡ 0) ⊎ (status ≡ 1) ⊎ (status ≡ 8)
  pub may_lose : RunsSo before.contents words (λ run. Unit {0}) → (Rose before.read_faults after.read_faults → ⊥) → (Rose before.save_faults after.save_faults → ⊥)
      → (Rose old.faults new.faults → ⊥) → (status ≡ 0) ⊎ (status ≡ 1) ⊎ (status ≡ 6) ⊎ (status ≡ 8)
  pub rejects : Rejects before.contents words → (Rose before.read_faults after.read_faults → ⊥) → (status ≡ 3) ⊎ (status ≡ 8)
