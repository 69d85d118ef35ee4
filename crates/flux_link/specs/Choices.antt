-- What choices make of the arrivals of a link, one choice for each.
use Rattle.flux_link.specs.declared.arrival.Arrival.{Arrival}
use Rattle.flux_link.specs.declared.lossy.Choice.{Choice}
use Rattle.flux_link.specs.declared.lossy.Choice.TheVariants.{Pass, Drop, Twice, Behind}
use Rattle.std.specs.Prelude.{List, [], ◌∷◌, ◌++◌, Option, Some, None, option_to_list}

-- what an arrival gives at its own place: itself once, twice or not at all
abbrev pub at_own_place : Choice → Arrival → List Arrival
at_own_place Pass arrival = arrival ∷ []
at_own_place Drop arrival = []
at_own_place Twice arrival = arrival ∷ arrival ∷ []
at_own_place Behind arrival = []

-- what an arrival leaves to be given behind the next one
abbrev pub left_behind : Choice → Arrival → Option Arrival
left_behind Pass arrival = None
left_behind Drop arrival = None
left_behind Twice arrival = None
left_behind Behind arrival = Some arrival

-- what is given of arrivals by choices, where one may be held that was left behind before them: each arrival gives what
-- it gives at its own place, then comes the one that was held, and what it leaves behind is held for the next; arrivals
-- past the end of the choices are passed
abbrev pub treated_behind : List Choice → Option Arrival → List Arrival → List Arrival
treated_behind choices held [] = []
treated_behind [] held (arrival ∷ later) = arrival ∷ option_to_list held ++ treated_behind [] None later
treated_behind (choice ∷ choices) held (arrival ∷ later) =
    at_own_place choice arrival ++ option_to_list held ++ treated_behind choices (left_behind choice arrival) later

-- what is given of arrivals by choices
abbrev pub treated : List Choice → List Arrival → List Arrival
treated choices arrivals = treated_behind choices None arrivals
