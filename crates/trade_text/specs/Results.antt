-- Values that are read in steps, up to the first refusal.
use Rattle.std.specs.Prelude.{Result, Ok, Err}
use Rattle.trade_text.specs.declared.error.ReadError.{ReadError}

-- a value, or the first refusal of a file with these fields
abbrev pub Read : Type 0 → Type 0 → Type 0
Read F A = Result A (ReadError F)

infixl 10 ◌>>=◌
-- the next step with the value, or the fault
abbrev pub ◌>>=◌ : {A B E : Type 0} → Result A E → (A → Result B E) → Result B E
(Ok x) >>= next = next x
(Err e) >>= next = Err e
