-- What the clauses of the steps of a command say: how a step ended, and how far the course came.
use Rattle.std.specs.Prelude.{ℕ, ◌≡◌, IfErr, List, OnOk, Result, Ok, Err}
use Rattle.std.specs.String.{string_bytes}
use Rattle.command_course.specs.Course.{Came, CameToRead, Course, Reading, Refuses, StoppedShort, Way, reads}
use Rattle.command_course.specs.Lines.{cannot_read_line}
use Rattle.flux_outside.specs.Outside.{Rose, StopsAtWant}
use Rattle.flux_outside.specs.Told.{FilesTold}
use Rattle.command_course.specs.declared.stop.Stop.{Stop}
use Rattle.command_course.specs.declared.stop.Stop.TheVariants as stop

-- a refusal by this line, where this holds of its fault
abbrev pub IsRefusedBy : Stop → List ℕ → Type 0 → Type 0
IsRefusedBy stop.Usage line P = ⊥
IsRefusedBy (stop.Refused said) line P = (string_bytes said ≡ line) × P
IsRefusedBy (stop.CannotRead said) line P = ⊥
IsRefusedBy stop.CannotWrite line P = ⊥
IsRefusedBy (stop.PairLost stage part said) line P = ⊥
IsRefusedBy stop.OutOfMemory line P = Unit {0}

-- a read fault that says this line
abbrev pub IsUnreadBy : Stop → List ℕ → Type 0
IsUnreadBy stop.Usage line = ⊥
IsUnreadBy (stop.Refused said) line = ⊥
IsUnreadBy (stop.CannotRead said) line = string_bytes said ≡ line
IsUnreadBy stop.CannotWrite line = ⊥
IsUnreadBy (stop.PairLost stage part said) line = ⊥
IsUnreadBy stop.OutOfMemory line = Unit {0}

-- a reading was refused by this line
abbrev pub StopsOn : {A : Type 0} → Reading A → Stop → Type 0
StopsOn reading stop.Usage = ⊥
StopsOn reading (stop.Refused line) = reading ≡ Err (string_bytes line)
StopsOn reading (stop.CannotRead line) = ⊥
StopsOn reading stop.CannotWrite = ⊥
StopsOn reading (stop.PairLost stage part said) = ⊥
StopsOn reading stop.OutOfMemory = Unit {0}

-- a course came to the reading of a file, and this line says that it can't be read
pub record IsUnread (before after : FilesTold) (course : Course) (line : List ℕ) : Type 0 where
  pub name : List ℕ
  pub came : CameToRead before after course name
  pub line_is : line ≡ cannot_read_line name

-- why a course stopped before anything was written, and how far it came
abbrev pub StopsOf : FilesTold → FilesTold → Course → Stop → Type 0
StopsOf before after course stop.Usage = ⊥
StopsOf before after course (stop.Refused line) = Came before after course (Refuses (string_bytes line))
StopsOf before after course (stop.CannotRead line) = IsUnread before after course (string_bytes line)
StopsOf before after course stop.CannotWrite = ⊥
StopsOf before after course (stop.PairLost stage part said) = ⊥
StopsOf before after course stop.OutOfMemory = StoppedShort before after course

-- a step stopped for want of memory
abbrev pub IsWant : {A : Type 0} → Result A Stop → Type 0
IsWant (Ok x) = ⊥
IsWant (Err stop.Usage) = ⊥
IsWant (Err (stop.Refused line)) = ⊥
IsWant (Err (stop.CannotRead line)) = ⊥
IsWant (Err stop.CannotWrite) = ⊥
IsWant (Err (stop.PairLost stage part said)) = ⊥
IsWant (Err stop.OutOfMemory) = Unit {0}

-- whatever a command does next with a value, it came there
abbrev pub GivesBy : {A : Type 0} → FilesTold → FilesTold → Way A → A → Type 0
GivesBy before after way value = (next : _ → Course) → Came before after (way next) (next value)

-- whatever it would have done next, it stopped there
abbrev pub StopsBy : {A : Type 0} → FilesTold → FilesTold → Way A → Stop → Type 0
StopsBy before after way why = (next : _ → Course) → StopsOf before after (way next) why

-- whatever a command does next with what a file of at most so many bytes says, it came there
abbrev pub Gives : {A : Type 0} → FilesTold → FilesTold → ℕ → (List ℕ → List ℕ → Reading A) → List ℕ → A → Type 0
Gives before after most reading name value = GivesBy before after (reads most reading name) value

-- whatever it would have done next with what a file of at most so many bytes says, it stopped there
abbrev pub StopsAt : {A : Type 0} → FilesTold → FilesTold → ℕ → (List ℕ → List ℕ → Reading A) → List ℕ → Stop → Type 0
StopsAt before after most reading name why = StopsBy before after (reads most reading name) why

-- a read fails only where the count of read faults rose; at any other stop, but want of memory, it stays
abbrev pub HasReadCause : ℕ → ℕ → Stop → Type 0
HasReadCause before now stop.Usage = now ≡ before
HasReadCause before now (stop.Refused line) = now ≡ before
HasReadCause before now (stop.CannotRead line) = Rose before now
HasReadCause before now stop.CannotWrite = ⊥
HasReadCause before now (stop.PairLost stage part said) = ⊥
HasReadCause before now stop.OutOfMemory = Unit {0}

-- A step of a command only reads: names hold what they held, and no save fails; it stops at the first want of memory; and the count
-- of faults of reads stays, but where a read that failed is why it stops, or want of memory is.
pub record OnlyReads {A : Type 0} (before after : FilesTold) (result : Result A Stop) : Type 0 where
  pub contents : after.contents ≡ before.contents
  pub saves : after.save_faults ≡ before.save_faults
  pub wants : StopsAtWant before.wants after.wants (IsWant result)
  pub cause : IfErr result (λ stop. HasReadCause before.read_faults after.read_faults stop)
  pub still : OnOk result (after.read_faults ≡ before.read_faults)
