-- Lists of places and of seats' numbers.
use Rattle.std.specs.Prelude.{ℕ, Bool, true, false, ◌==◌, nat_lt, ◌||◌, ◌&&◌, not, if◌then◌else◌, List, [], ◌∷◌, ◌++◌}

-- k stands in the list
abbrev pub is_in : ℕ → List ℕ → Bool
is_in k [] = false
is_in k (x ∷ xs) = (k == x) || is_in k xs

-- the list without k
abbrev pub without : ℕ → List ℕ → List ℕ
without k [] = []
without k (x ∷ xs) = if k == x then without k xs else x ∷ without k xs

-- no number stands twice
abbrev pub is_distinct : List ℕ → Bool
is_distinct [] = true
is_distinct (x ∷ xs) = not (is_in x xs) && is_distinct xs

-- every number is below n
abbrev pub all_below : ℕ → List ℕ → Bool
all_below n [] = true
all_below n (x ∷ xs) = nat_lt x n && all_below n xs

-- the places of the slots that a seat has taken, the last one first
abbrev pub places_of : {S : Type 0} → List (ℕ × S) → List ℕ
places_of [] = []
places_of (x ∷ xs) = x.0 ∷ places_of xs

-- the first number goes behind the others
abbrev pub rotated : List ℕ → List ℕ
rotated [] = []
rotated (x ∷ xs) = xs ++ x ∷ []
