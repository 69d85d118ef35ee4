-- The course of a command: it reads one input after the other, and then writes its text or runs a plan, or refuses an input.
use Rattle.std.specs.Prelude.{ℕ, ◌≡◌, Bool, List, [], ◌∷◌, ◌++◌, Option, Result, Ok, Err}
use Rattle.pair_machine.specs.declared.order.Order.{Order}
use Rattle.command_course.specs.FeedView.{FeedView}
use Rattle.flux_outside.specs.Outside.{Adds, Call, IsHeld, Names, Read}
use Rattle.flux_outside.specs.Told.{FilesTold}

-- a value, or the line by which its file is refused
abbrev pub Reading : Type 0 → Type 0
Reading A = Result A (List ℕ)

-- A run of a plan by pairs on threads: what the plan is fed with, the orders of the failure script, the file of the journal, and whether a summary
-- is written in place of the rows.
pub record Run : Type 0 where
  pub feed : FeedView
  pub script : List Order
  pub journal : Option (List ℕ)
  pub summary : Bool

-- the next input is read, of which at most so many bytes are allowed, and its bytes decide how it goes on; or the command ends, with its text, with a run, or with a refusal
pub data Course : Type 0 where
  Reads : (name : List ℕ) → (most : ℕ) → (next : List ℕ → Course) → Course
  Writes : (text : List ℕ) → Course
  Runs : (run : Run) → Course
  Refuses : (line : List ℕ) → Course

-- a refused input ends a command, and an accepted one lets it go on
infixl 10 ◌>>=◌
abbrev pub ◌>>=◌ : {A : Type 0} → Reading A → (A → Course) → Course
(Ok x) >>= next = next x
(Err line) >>= next = Refuses line

-- a file of at most so many bytes is read, and what it says decides how it goes on
abbrev pub reads : {A : Type 0} → ℕ → (List ℕ → List ℕ → Reading A) → List ℕ → (A → Course) → Course
reads most reading name next = Reads name most (λ bytes. reading name bytes >>= next)

-- how a command goes on with a value that it reads
abbrev pub Way : Type 0 → Type 0
Way A = (A → Course) → Course

-- ---- how far a course came

-- These calls lead a course to there: each reads the next input, with its bound, of bytes that its file holds, as far as it is told.
abbrev pub Leads : Option Names → Course → List Call → Course → Type 0
Leads told course [] there = course ≡ there
Leads told (Reads name most next) (call ∷ calls) there = (call ≡ Read name most) × ((bytes : List ℕ) × IsHeld told name bytes × Leads told (next bytes) calls there)
Leads told (Writes text) (call ∷ calls) there = ⊥
Leads told (Runs run) (call ∷ calls) there = ⊥
Leads told (Refuses line) (call ∷ calls) there = ⊥

-- A course came to there: just the calls that lead there were added, where calls are told.
pub record Came (before after : FilesTold) (course there : Course) : Type 0 where
  pub calls : List Call
  pub leads : Leads before.contents course calls there
  pub added : Adds before.calls after.calls calls

-- A course came to the reading of this file, which was tried: that call is the last one that was added.
pub record CameToRead (before after : FilesTold) (course : Course) (name : List ℕ) : Type 0 where
  pub most : ℕ
  pub next : List ℕ → Course
  pub calls : List Call
  pub leads : Leads before.contents course calls (Reads name most next)
  pub added : Adds before.calls after.calls (calls ++ Read name most ∷ [])

-- a course came somewhere, and the next reading was tried or not
pub data StoppedShort (before after : FilesTold) (course : Course) : Type 0 where
  Between : (there : Course) → Came before after course there → StoppedShort before after course
  AtReading : (name : List ℕ) → CameToRead before after course name → StoppedShort before after course
