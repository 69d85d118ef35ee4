-- How far an inlet has come that treats the arrivals of another one by choices.
use Rattle.flux_link.specs.Choices.{treated, left_behind}
use Rattle.flux_link.specs.Limits.{max_ahead}
use Rattle.flux_link.specs.declared.arrival.Arrival.{Arrival}
use Rattle.flux_link.specs.declared.lossy.Choice.{Choice}
use Rattle.flux_link.specs.declared.lossy.Choice.TheVariants.{Pass}
use Rattle.std.specs.Prelude.{◌≡◌, ◌≤◌, ℕ, ◌+◌, ◌-◌, List, [], ◌∷◌, ◌++◌, length, min, take, drop, Option, None, slice_index_or}

-- the arrivals of a list behind the first ones, which are as many as `before`
abbrev pub arrivals_since : List Arrival → List Arrival → List Arrival
arrivals_since before arrivals = drop (length before) arrivals

-- the choice for the arrival behind so many others
abbrev pub choice_after : List Choice → ℕ → Choice
choice_after choices count = slice_index_or choices count Pass

-- the arrival that is held after these, where one may be held before them
abbrev pub held_after : List Choice → Option Arrival → List Arrival → Option Arrival
held_after choices held [] = held
held_after [] held (arrival ∷ later) = held_after [] None later
held_after (choice ∷ choices) held (arrival ∷ later) = held_after choices (left_behind choice arrival) later

-- what was given of arrivals by choices, where the last that is to be given of them is still ready
abbrev pub given_but_for : List Arrival → List Choice → List Arrival → List Arrival
given_but_for ready choices arrivals =
    take (length (treated choices arrivals) - length ready) (treated choices arrivals)

-- the arrivals since `before` were treated: the choice for the next one stands at this place, this one is held, and what
-- is ready is all that is still to be given of them. The inner inlet has taken so many packets: few enough that it may
-- take one more where nothing is ready.
pub record IsTreating (before arrivals : List Arrival) (choices : List Choice) (next : ℕ) (held : Option Arrival)
    (ready : List Arrival) (taken : ℕ) : Type 0 where
  pub began : length before ≤ length arrivals
  pub place : next ≡ min (length (arrivals_since before arrivals)) (length choices)
  pub holds : held ≡ held_after choices None (arrivals_since before arrivals)
  pub waits : given_but_for ready choices (arrivals_since before arrivals) ++ ready
      ≡ treated choices (arrivals_since before arrivals)
  pub few : taken + (length choices - next) + (1 - length ready)
      ≤ length (given_but_for ready choices (arrivals_since before arrivals)) + max_ahead
