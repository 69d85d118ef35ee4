-- What calls to files and sinks do, and what of it is told.
use Rattle.std.specs.Prelude.{Bool, true, false, Result, Ok, Err, ◌∷◌, if◌then◌else◌, ℕ, ◌≡◌, ◌≢◌, ◌+◌, ◌-◌, ◌^◌, ◌<◌, ◌≤◌, min, List, [], ◌++◌, take, length, Option, Some, None, ◌⊎◌}
use Rattle.std.specs.Io.KnownBytes.{Appends}
use Rattle.flux_outside.specs.declared.outside.FileStop.{FileStop}
use Rattle.flux_outside.specs.declared.outside.FileStop.TheVariants as stop
use Rattle.flux_outside.specs.declared.outside.Got.{Got}
use Rattle.flux_outside.specs.declared.outside.Got.TheVariants as got

-- ---- counts of faults

-- a count that stands still at the last value of its counter
abbrev pub counted : ℕ → ℕ
counted n = min (n + 1) (2 ^ 64 - 1)

-- a count became greater, or stands at the last value of its counter
abbrev pub Rose : ℕ → ℕ → Type 0
Rose before now = counted before ≤ now

-- a file call fails only where its count rose
abbrev pub Explains : ℕ → ℕ → FileStop → Type 0
Explains before now stop.Failed = Rose before now
Explains before now stop.OutOfMemory = Unit {0}

-- ---- files

-- what each name holds
abbrev pub Names : Type 0
Names = List ℕ → Option (List ℕ)

-- a name holds these bytes, as far as it is told
abbrev pub IsHeld : Option Names → List ℕ → List ℕ → Type 0
IsHeld None name bytes = Unit {0}
IsHeld (Some named) name bytes = named name ≡ Some bytes

-- what was there stands in front
abbrev pub KeepsFront : List ℕ → List ℕ → Type 0
KeepsFront old new = take (length old) new ≡ old

-- bytes were read whole after those that were there, or they are too long
abbrev pub IsReadOf : List ℕ → ℕ → Got → List ℕ → List ℕ → Type 0
IsReadOf bytes max got.Whole old new = (length bytes ≤ max) × (new ≡ old ++ bytes)
IsReadOf bytes max (got.TooLong seen) old new = (max < length bytes) × (seen ≡ max + 1)

-- a read gave the bytes that the name holds, as far as it is told
pub record IsRead (told : Option Names) (name : List ℕ) (max : ℕ) (ending : Got) (old new : List ℕ) : Type 0 where
  pub bytes : List ℕ
  pub held : IsHeld told name bytes
  pub read : IsReadOf bytes max ending old new

-- a reader has these bytes left, as far as it tells
abbrev pub IsLeft : Option (List ℕ) → List ℕ → Type 0
IsLeft None bytes = Unit {0}
IsLeft (Some left) bytes = left ≡ bytes

-- a read gave all bytes that a reader had left, as far as it tells
pub record ReadsRest (left : Option (List ℕ)) (max : ℕ) (ending : Got) (old new : List ℕ) : Type 0 where
  pub bytes : List ℕ
  pub left_is : IsLeft left bytes
  pub read : IsReadOf bytes max ending old new

-- these bytes were written to a file that was created, as far as its writer tells
abbrev pub IsWritten : {W E : Type 0} → (W → Option (List ℕ)) → Result W E → Result W E → List ℕ → Type 0
IsWritten contents (Ok old) (Ok new) bytes = Appends (contents old) (contents new) bytes
IsWritten contents (Ok old) (Err error) bytes = ⊥
IsWritten contents (Err error) new bytes = ⊥

-- every other name holds what it held
abbrev pub OthersStay : Names → Names → List ℕ → Type 0
OthersStay old new name = (other : List ℕ) → other ≢ name → new other ≡ old other

-- the same, where it is told what names hold
abbrev pub LeavesOthers : Option Names → Option Names → List ℕ → Type 0
LeavesOthers None new name = Unit {0}
LeavesOthers (Some old) None name = ⊥
LeavesOthers (Some old) (Some new) name = OthersStay old new name

-- a call of files, with its name, and of a read the most bytes that it allowed
pub data Call : Type 0 where
  Read : (name : List ℕ) → (max : ℕ) → Call
  Save : (name : List ℕ) → Call

-- whether a call found memory
abbrev pub is_counted : {T : Type 0} → Result T FileStop → Bool
is_counted (Ok x) = true
is_counted (Err stop.Failed) = true
is_counted (Err stop.OutOfMemory) = false

-- a call joins the list of calls where it found memory
abbrev pub Joins : Option (List Call) → Option (List Call) → Call → Bool → Type 0
Joins None new call counted = Unit {0}
Joins (Some old) new call counted = new ≡ Some (if counted then old ++ call ∷ [] else old)

-- exactly these calls were added, where calls are told
abbrev pub Adds : Option (List Call) → Option (List Call) → List Call → Type 0
Adds None new calls = Unit {0}
Adds (Some old) new calls = new ≡ Some (old ++ calls)

-- how often a call has found no memory, as far as it is counted, and whether the last call did
pub record Wants : Type 0 where
  pub count : ℕ
  pub last : Bool

-- these wants after a call that found memory or not
abbrev pub after_call : Wants → Bool → Wants
after_call wants true = record { count = wants.count; last = false }
after_call wants false = record { count = counted wants.count; last = true }

-- a call found memory or not, where wants are told
abbrev pub Finds : Option Wants → Option Wants → Bool → Type 0
Finds None new found = Unit {0}
Finds (Some old) new found = new ≡ Some (after_call old found)

-- Either each call found memory, or the last one alone didn't; then this holds too.
abbrev pub WantsLast : Wants → Wants → Type 0 → Type 0
WantsLast old new P = (new.count ≡ old.count) ⊎ ((new.count ≡ counted old.count) × (new.last ≡ true) × P)

-- the same, where wants are told
abbrev pub StopsAtWant : Option Wants → Option Wants → Type 0 → Type 0
StopsAtWant None new P = Unit {0}
StopsAtWant (Some old) None P = ⊥
StopsAtWant (Some old) (Some new) P = WantsLast old new P

-- ---- sinks

-- a piece joins the list of those that were offered, where it is told
abbrev pub IsOffered : Option (List (List ℕ)) → Option (List (List ℕ)) → List ℕ → Type 0
IsOffered None new piece = Unit {0}
IsOffered (Some old) new piece = new ≡ Some (old ++ piece ∷ [])

-- what is left of a piece where at least one byte of its front was taken
abbrev pub IsLeftBy : List ℕ → List ℕ → Type 0
IsLeftBy piece rest = (front : List ℕ) × (0 < length front) × (piece ≡ front ++ rest)

-- each piece is what is left of the one before it
abbrev pub FollowOn : List ℕ → List (List ℕ) → Type 0
FollowOn piece [] = Unit {0}
FollowOn piece (next ∷ pieces) = IsLeftBy piece next × FollowOn next pieces

-- each of these pieces of a text is all that was left of it: the first is the text, and each other one is what is left of the piece before it
abbrev pub AreRests : List ℕ → List (List ℕ) → Type 0
AreRests text [] = Unit {0}
AreRests text (piece ∷ pieces) = (piece ≡ text) × FollowOn piece pieces

-- the pieces that were offered since then are rests of a text
pub record AddsRests (old new : List (List ℕ)) (text : List ℕ) : Type 0 where
  pub pieces : List (List ℕ)
  pub added : new ≡ old ++ pieces
  pub rests : AreRests text pieces

-- the same, where pieces are told
abbrev pub OffersRests : Option (List (List ℕ)) → Option (List (List ℕ)) → List ℕ → Type 0
OffersRests None new text = Unit {0}
OffersRests (Some old) None text = ⊥
OffersRests (Some old) (Some new) text = AddsRests old new text

-- these bytes were taken, where it is told what is taken
abbrev pub Takes : Option (List ℕ) → Option (List ℕ) → List ℕ → Type 0
Takes None new bytes = Unit {0}
Takes (Some old) new bytes = new ≡ Some (old ++ bytes)

-- a proper prefix of these bytes was taken
pub record TakesPart (old new : Option (List ℕ)) (bytes : List ℕ) : Type 0 where
  pub front : List ℕ
  pub left : List ℕ
  pub some_left : 0 < length left
  pub whole : bytes ≡ front ++ left
  pub taken : Takes old new front
