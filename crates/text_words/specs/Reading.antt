-- Reading from the left: a value, or the first fault.
use Rattle.std.specs.Prelude.{ℕ, ◌≡◌, List, [], ◌∷◌, Result, Ok, Err, if◌then◌else◌}
use Rattle.std.specs.Str.{bytes_eq}
use Rattle.text_words.specs.Lines.{Word}

infixl 10 ◌>>=◌
-- what follows from a value; a fault stays
abbrev pub ◌>>=◌ : {A B E : Type 0} → Result A E → (A → Result B E) → Result B E
(Ok x) >>= f = f x
(Err e) >>= f = Err e

-- ---- words

-- a value and the words after it, or the fault of the first word that is refused
abbrev pub Read : Type 0 → Type 0 → Type 0
Read A E = Result (A × List Word) E

-- a word, or this fault where there is none
abbrev pub word_or : {E : Type 0} → E → List Word → Read Word E
word_or fault [] = Err fault
word_or fault (word ∷ words) = Ok (word, words)

-- a word that is fixed, or this fault where there is none or another
unfoldable pub fixed_or : {E : Type 0} → E → Word → List Word → Read (Unit {0}) E
fixed_or fault text words = do
  w ← word_or fault words
  if bytes_eq w.0 text then Ok (tt, w.1) else Err fault

-- no word, or this fault where there is one
abbrev pub end_or : {E : Type 0} → E → List Word → Read (Unit {0}) E
end_or fault [] = Ok (tt, [])
end_or fault (word ∷ words) = Err fault

-- a value that was read in the line with this number, or the fault there, which has the line's number
abbrev pub at_line : {A F E : Type 0} → (ℕ → F → E) → ℕ → Read A F → Result A E
at_line fault_at number (Ok x) = Ok x.0
at_line fault_at number (Err fault) = Err (fault_at number fault)

-- ---- what a call that reads answers

-- What a reader gave, seen by view, is what reading gives, and it left the words that are left then.
abbrev pub TakesBy : {X A E : Type 0} → (X → A) → List Word → Result X E → Read A E → Type 0
TakesBy view left (Ok x) read = read ≡ Ok (view x, left)
TakesBy view left (Err e) read = read ≡ Err e

-- the same of a value that is seen as it is
abbrev pub Takes : {A E : Type 0} → List Word → Result A E → Read A E → Type 0
Takes left result read = TakesBy (λ x. x) left result read

-- what a reader gave, seen by view, is what reading gives
abbrev pub Reads : {X A E : Type 0} → (X → A) → Result X E → Result A E → Type 0
Reads view (Ok x) read = read ≡ Ok (view x)
Reads view (Err e) read = read ≡ Err e
