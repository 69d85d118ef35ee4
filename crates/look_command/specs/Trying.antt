-- A file is read, whatever it says: its fault is no refusal, and the course goes on.
use Rattle.std.specs.Prelude.{ℕ, ◌≡◌, List, Option, None, Some, Result, Ok, Err, String, option_map}
use Rattle.std.specs.String.{string_bytes}
use Rattle.std.specs.declared.alloc.Global.{Global}
use Rattle.command_course.specs.Course.{Reading, Way, reads}
use Rattle.command_course.specs.declared.stop.Stop.{Stop}
use Rattle.command_course.specs.declared.stop.Stop.TheVariants as stop

-- what a file of at most so many bytes says, or the line of its fault, decides how a command goes on
abbrev pub tries : {A : Type 0} → ℕ → (List ℕ → List ℕ → Reading A) → List ℕ → Way (Reading A)
tries most reading name = reads most (λ it bytes. Ok (reading it bytes)) name

-- what a file says that may be named or not
abbrev pub Named : Type 0 → Type 0
Named A = Option (Reading A)

-- the file is read where it is named
abbrev pub tries_named : {A : Type 0} → ℕ → (List ℕ → List ℕ → Reading A) → Option (List ℕ) → Way (Named A)
tries_named most reading None next = next None
tries_named most reading (Some name) next = tries most reading name (λ said. next (Some said))

-- ---- as the code holds it

-- what a file says, or the line of its fault, that code has read
abbrev pub tried_of : {A : Type 0} → Result A (String Global) → Reading A
tried_of (Ok value) = Ok value
tried_of (Err line) = Err (string_bytes line)

-- what a file says, or the line of its fault, that code has read if it is named
abbrev pub named_of : {A : Type 0} → Option (Result A (String Global)) → Named A
named_of = option_map tried_of

-- a refusal became a fault, and all else stayed
abbrev pub IsTried : {A : Type 0} → Result A Stop → Result (Result A (String Global)) Stop → Type 0
IsTried (Ok value) tried = tried ≡ Ok (Ok value)
IsTried (Err (stop.Refused line)) tried = tried ≡ Ok (Err line)
IsTried (Err why) tried = tried ≡ Err why
