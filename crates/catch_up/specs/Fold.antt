-- How far the numbers held follow a mark.
use Rattle.std.specs.Prelude.{◌≡◌, ℕ, ◌+◌, ◌<◌, ◌≤◌, List, [], ◌∷◌, None, slice_index_or}
use Rattle.std.specs.Option.{IsSome}
use Rattle.tuple_edge.specs.declared.item.Item.{Item}
use Rattle.catch_up.specs.NewcomerView.{held_at}

-- all these numbers are above one
abbrev pub AllAbove : ℕ → List (ℕ × Item) → Type 0
AllAbove n [] = Unit {0}
AllAbove n (e ∷ es) = (n < e.0) × AllAbove n es

-- each number is above those before it
abbrev pub IsRising : List (ℕ × Item) → Type 0
IsRising [] = Unit {0}
IsRising (e ∷ es) = AllAbove e.0 es × IsRising es

-- each number above the mark up to this one is held, and the next one is not
pub record IsRunFrom (held : List (ℕ × Item)) (mark upto : ℕ) : Type 0 where
  pub from : mark ≤ upto
  pub held_to : (k : ℕ) → mark < k → k ≤ upto → IsSome (held_at held k)
  pub ends : held_at held (upto + 1) ≡ None

-- what is held of each of the first n edges rises
abbrev pub AllRising : List (List (ℕ × Item)) → ℕ → Type 0
AllRising held n = (q : ℕ) → q < n → IsRising (slice_index_or held q [])
