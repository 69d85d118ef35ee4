-- What a file says, where of a fault it is told where it stands and what may stand there.
use Rattle.std.specs.Prelude.{ℕ, ◌≡◌, Bool, true, false, List, ◌++◌, length, nat_lt, Option, None, Some, Result, Ok, Err, String, codes, if◌then◌else◌}
use Rattle.std.specs.String.{string_bytes}
use Rattle.std.specs.declared.alloc.Global.{Global}
use Rattle.tuple_edge.specs.declared.memory.OutOfMemory.{OutOfMemory}
use Rattle.trade_text.specs.TradesView.{TradesView}
use Rattle.trade_check.specs.Given.{GivenView, given}
use Rattle.command_course.specs.Course.{Reading}
use Rattle.command_course.specs.Steps.{IsRefusedBy}
use Rattle.command_course.specs.declared.stop.Stop.{Stop}
use Rattle.command_course.specs.declared.stop.Stop.TheVariants as stop

-- what was read, with the line of its fault where that is told
abbrev pub better : {A : Type 0} → Option (List ℕ) → Reading A → Reading A
better fault (Ok value) = Ok value
better None (Err line) = Err line
better (Some text) (Err line) = Err (text ++ codes "\n")

-- what a file says, with its fault; of one that is too long no place is told
abbrev pub told_from : {A : Type 0} → (most : ℕ) → (List ℕ → List ℕ → Option (List ℕ)) → (List ℕ → List ℕ → Reading A) → List ℕ → List ℕ → Reading A
told_from most fault reading name bytes = if nat_lt most (length bytes) then reading name bytes else better (fault name bytes) (reading name bytes)

-- what a file of trades says, with its name and its bytes
abbrev pub with_file : List ℕ → List ℕ → Reading TradesView → Reading GivenView
with_file name bytes (Ok trades) = Ok (given name bytes trades)
with_file name bytes (Err line) = Err line

-- ---- as the code holds it

-- a refusal has the line of the fault where that is told, or memory was wanting; all else stayed
abbrev pub IsTold : Stop → Result (Option (String Global)) OutOfMemory → Stop → Type 0
IsTold (stop.Refused line) (Ok None) own = own ≡ stop.Refused line
IsTold (stop.Refused line) (Ok (Some text)) own = IsRefusedBy own (string_bytes text ++ codes "\n") (Unit {0})
IsTold (stop.Refused line) (Err want) own = own ≡ stop.OutOfMemory
IsTold why fault own = own ≡ why

-- the same, but of too many bytes no place is told
abbrev pub IsToldUnlessLong : (is_long : Bool) → Stop → Result (Option (String Global)) OutOfMemory → Stop → Type 0
IsToldUnlessLong true why fault own = own ≡ why
IsToldUnlessLong false why fault own = IsTold why fault own
