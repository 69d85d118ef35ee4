-- Where things stand: parts of a length, and what is made of the elements of a list by their places in it.
use Rattle.std.specs.Prelude.{ℕ, ◌+◌, ◌*◌, ◌/◌, List, [], ◌∷◌, ◌++◌, max, min}

-- how much of a length a part is of its whole, rounded down; no more than all of it
abbrev pub scaled : (length whole part : ℕ) → ℕ
scaled length whole part = min length (part * length / max 1 whole)

-- what a function makes of elements, one after another, each by its place in the list, which begins at this number
abbrev pub placed : {X A : Type 0} → (ℕ → X → List A) → ℕ → List X → List A
placed f n [] = []
placed f n (x ∷ xs) = f n x ++ placed f (n + 1) xs
