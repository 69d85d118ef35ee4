-- What contracts see of an inlet that treats the packets of another one.
use Rattle.flux_link.specs.Arrivals.{KeepsAll}
use Rattle.flux_link.specs.Treating.{arrivals_since, given_but_for}
use Rattle.flux_link.specs.declared.arrival.Arrival.{Arrival}
use Rattle.flux_link.specs.declared.lossy.Choice.{Choice}
use Rattle.flux_link.specs.declared.lossy.LossyIn.{LossyIn}
use Rattle.flux_link.specs.declared.traits.Inlet.{Ghosts}
use Rattle.std.specs.Prelude.{◌≡◌, ℕ, ◌+◌, ◌-◌, ◌*◌, List, [], ◌∷◌, Option, None, Some, length}

-- calls that gave these arrivals lead from one inlet to the other, by what one call does
abbrev pub Leads : {I : Type 0} → (I → Option Arrival → I → Type 0) → List Arrival → I → I → Type 0
Leads receives [] before after = before ≡ after
Leads {I} receives (arrival ∷ later) before after =
    (next : I) × receives before (Some arrival) next × Leads receives later next after

module _ {I : Type 0} {G : Ghosts I} where
  -- the inlet whose packets it treats
  abbrev pub inner_of : LossyIn I G → I
  inner_of lossy = lossy.inner

  -- the choices for these packets
  abbrev pub choices_of : LossyIn I G → List Choice
  choices_of lossy = lossy.choices.items

  -- the arrivals that it took from that inlet
  abbrev pub inner_arrivals : LossyIn I G → List Arrival
  inner_arrivals lossy = arrivals_since (G.given lossy.opening.value) (G.given lossy.inner)

  -- what the inner inlet gave, and has still to come where it tells that, are together what they were
  abbrev pub InnerKeepsAll : LossyIn I G → LossyIn I G → Type 0
  InnerKeepsAll before after = KeepsAll (G.coming before.inner) (G.given before.inner) (G.coming after.inner) (G.given after.inner)

  -- between the two the inner inlet gave some arrivals
  abbrev pub AskedOn : LossyIn I G → LossyIn I G → Type 0
  AskedOn before after = (arrivals : List Arrival) × Leads G.receives arrivals before.inner after.inner

  -- between the two the inner inlet gave some arrivals, and then none
  abbrev pub AskedToItsEnd : LossyIn I G → LossyIn I G → Type 0
  AskedToItsEnd before after =
      (last : I) × (arrivals : List Arrival) × Leads G.receives arrivals before.inner last × G.receives last None after.inner

  -- the arrivals that it gave
  abbrev pub given_by : LossyIn I G → List Arrival
  given_by lossy = given_but_for lossy.ready (choices_of lossy) (inner_arrivals lossy)

  -- how many packets were taken from the link, with one for each choice that is left
  abbrev pub taken_by : LossyIn I G → ℕ
  taken_by lossy = G.taken lossy.inner + (length (choices_of lossy) - lossy.next)

  -- a number that falls with each packet that is treated before something is ready
  abbrev pub steps_left : LossyIn I G → ℕ
  steps_left lossy = 2 * (length (choices_of lossy) - lossy.next) + (1 - length lossy.ready)
