-- How a command ends that isn't refused: what it writes, and what it saves before.
use Rattle.std.specs.Prelude.{ℕ, ◌≡◌, ◌⊎◌, List, [], ◌∷◌, Option, None, Some}
use Rattle.tuple_edge.specs.declared.event.Drained.{Drained}
use Rattle.tuple_edge.specs.declared.event.Drained.TheVariants as drained
use Rattle.pair_machine.specs.Drain.{partition}
use Rattle.pair_machine.specs.Numbers.{Partition}
use Rattle.pair_machine.specs.Scripts.{IsSafe}
use Rattle.command_course.specs.Course.{Course, Reads, Refuses, Runs, Writes}
use Rattle.flux_outside.specs.Outside.{Call, IsHeld, LeavesOthers, Names, Save}
use Rattle.run_command.specs.Endings.{EndsLost, EndsWhole, Ending}

-- with its text, or with a run that was whole
abbrev pub Ends : Course → Ending → Type 0
Ends (Reads name most next) ending = ⊥
Ends (Writes text) ending = (ending.text ≡ text) × (ending.saved ≡ None)
Ends (Runs run) ending = EndsWhole run ending
Ends (Refuses line) ending = ⊥

-- with a run in which this pair was lost
abbrev pub Loses : Partition → Course → Ending → Type 0
Loses pair (Reads name most next) ending = ⊥
Loses pair (Writes text) ending = ⊥
Loses pair (Runs run) ending = EndsLost run pair ending
Loses pair (Refuses line) ending = ⊥

-- in either way
abbrev pub EndsOrLoses : Course → Ending → Type 0
EndsOrLoses there ending = Ends there ending ⊎ ((pair : Partition) × Loses pair there ending)

-- in the way that a drain says
abbrev pub EndsBy : Drained → Course → Ending → Type 0
EndsBy drained.Whole there ending = Ends there ending
EndsBy (drained.Lost stage part) there ending = Loses (partition stage part) there ending

-- a course that is at its end, with no refusal
abbrev pub IsAtEnd : Course → Type 0
IsAtEnd (Reads name most next) = ⊥
IsAtEnd (Writes text) = Unit {0}
IsAtEnd (Runs run) = Unit {0}
IsAtEnd (Refuses line) = ⊥

-- and with no run in which a pair may be lost
abbrev pub LosesNone : Course → Type 0
LosesNone (Reads name most next) = ⊥
LosesNone (Writes text) = Unit {0}
LosesNone (Runs run) = IsSafe run.script
LosesNone (Refuses line) = ⊥

-- the call that saves, if anything is saved
abbrev pub saves_of : Option (List ℕ × List ℕ) → List Call
saves_of None = []
saves_of (Some saved) = Save saved.0 ∷ []

-- the file of what is saved holds it, and the others hold what they held
abbrev pub Keeps : Option Names → Option Names → Option (List ℕ × List ℕ) → Type 0
Keeps old new None = new ≡ old
Keeps old new (Some saved) = IsHeld new saved.0 saved.1 × LeavesOthers old new saved.0

-- the file of what was to be saved holds nothing that is known, and the others hold what they held
abbrev pub MayBeLost : Option Names → Option Names → Option (List ℕ × List ℕ) → Type 0
MayBeLost old new None = ⊥
MayBeLost old new (Some saved) = LeavesOthers old new saved.0
